-- Readings that refuse nothing. Serves src/readings.rt.
use Rattle.std.specs.Prelude.{ℕ, ◌-◌, cond, ◌&&◌, List, length, take, Option, Some, None}
use Rattle.ledger.specs.declared.state.Line.{Line}
use Rattle.ledger.specs.declared.state.Book.{Book}
use Rattle.ledger.specs.Judged.{given_out}
use Rattle.ledger.specs.Form.{award_at, held_under}
use Rattle.ledger.specs.Lines.{closed_months}

-- the kW that the facility f holds under the award a
abbrev pub holding_at : Book → ℕ → ℕ → ℕ
holding_at b a f = held_under (f - 1) (award_at b.trade (a - 1))

-- the same, where both numbers were given out
abbrev pub holding_of : Book → ℕ → ℕ → Option ℕ
holding_of b a f =
    cond (given_out a (length b.trade.items) && given_out f (length b.register.items)) (Some (holding_at b a f)) None

-- the lines of the closed months, in their order
abbrev pub lines_or_zeros : Book → List (List Line)
lines_or_zeros b = take (closed_months b.stage) b.lines
