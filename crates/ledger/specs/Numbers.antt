-- What a call refuses of the numbers that it is given. Serves src/numbers.rt.
use Rattle.std.specs.Prelude.{ℕ, not, [], ◌∷◌, ◌++◌, length}
use Rattle.ledger.specs.declared.course.Call.{Call}
use Rattle.ledger.specs.declared.refusal.Refusal.TheVariants as refusal
use Rattle.ledger.specs.declared.state.Book.{Book}
use Rattle.ledger.specs.Judged.{Rows, given_out}
use Rattle.ledger.specs.Course.{course}
use Rattle.ledger.specs.Lines.{closed_months}

-- the facility f is to be given out
abbrev pub facility_given : Book → ℕ → Rows
facility_given b f = (not (given_out f (length b.register.items)), refusal.NoFacility) ∷ []

-- the award a is to be given out
abbrev pub award_given : Book → ℕ → Rows
award_given b a = (not (given_out a (length b.trade.items)), refusal.NoAward) ∷ []

-- the month m is to be closed
abbrev pub month_closed : Book → ℕ → Rows
month_closed b m = (not (given_out m (closed_months b.stage)), refusal.NotClosed) ∷ []

-- a call is to belong to the stage, and its facility to be given out
abbrev pub admission : Call → Book → ℕ → Rows
admission c b f = course c b.stage ++ facility_given b f
