-- Awarding: its figures, its refusals, and the award that it adds. Serves src/awarding.rt.
use Rattle.std.specs.Prelude.{ℕ, ◌+◌, ◌-◌, Bool, not, ◌&&◌, [], ◌∷◌, ◌++◌, length, Ok, replicate, nat_le, nat_lt, slice_set}
use Rattle.ledger.specs.declared.course.Call.TheVariants as call
use Rattle.ledger.specs.declared.refusal.Refusal.TheVariants as refusal
use Rattle.ledger.specs.declared.state.Award.{Award}
use Rattle.ledger.specs.declared.state.Book.{Book}
use Rattle.ledger.specs.Judged.{Rows, given_out, Answer, Does}
use Rattle.ledger.specs.Course.{course}
use Rattle.ledger.specs.Form.{facility_at, held_in_all}
use Rattle.ledger.specs.Changes.{with_trade}

-- whether the facility f would hold more than its firm power with these kW more
abbrev pub over_firm : Book → ℕ → ℕ → Bool
over_firm b f kw = nat_lt (facility_at b.register (f - 1)).firm (held_in_all b.trade (f - 1) + kw)

-- whether an award's kW and price are within their limits
abbrev pub right_award : ℕ → ℕ → Bool
right_award kw price = (nat_le 1_000 kw && nat_le kw 1_000_000) && nat_le 1 price && nat_le price 100_000

abbrev pub award_rows : Book → ℕ → ℕ → ℕ → Rows
award_rows b f kw price =
    course call.Award b.stage
    ++ (not (given_out f (length b.register.items)), refusal.NoFacility)
    ∷ (nat_le 32 (length b.trade.items), refusal.NoRoom)
    ∷ (not (right_award kw price), refusal.OutOfLimits)
    ∷ (over_firm b f kw, refusal.OverFirm) ∷ []

-- an award all of whose kW the facility f holds
abbrev pub new_award : ℕ → ℕ → ℕ → Award
new_award f kw price = record { kw = kw; price = price; held = slice_set (replicate 64 0) (f - 1) kw }

abbrev pub awarded : Book → ℕ → ℕ → ℕ → Book
awarded b f kw price = with_trade b (record { items = b.trade.items ++ new_award f kw price ∷ [] })

-- an awarding on the book b answers r, the award's number where it is accepted, and leaves the book b'
abbrev pub Awards : Book → ℕ → ℕ → ℕ → Answer ℕ → Book → Type 0
Awards b f kw price r b' = Does (award_rows b f kw price) (Ok (length b.trade.items + 1)) (awarded b f kw price) b r b'
