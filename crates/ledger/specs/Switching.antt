-- Switching: its refusals, and the one facility that it changes. Serves src/switching.rt.
use Rattle.std.specs.Prelude.{ℕ, ◌-◌, Bool, not, [], ◌∷◌, ◌++◌, length, Ok, slice_set}
use Rattle.ledger.specs.declared.course.Call.TheVariants as call
use Rattle.ledger.specs.declared.refusal.Refusal.TheVariants as refusal
use Rattle.ledger.specs.declared.state.Facility.{Facility}
use Rattle.ledger.specs.declared.state.Book.{Book}
use Rattle.ledger.specs.Judged.{Rows, given_out, Answer, Does}
use Rattle.ledger.specs.Course.{course}
use Rattle.ledger.specs.Form.{facility_at}
use Rattle.ledger.specs.Changes.{with_register}

abbrev pub switch_rows : Book → ℕ → Rows
switch_rows b f = course call.Switch b.stage ++ (not (given_out f (length b.register.items)), refusal.NoFacility) ∷ []

-- the facility, on or off
abbrev pub set_on : Facility → Bool → Facility
set_on x on = record x { on = on }

-- the book with the facility f on or off
abbrev pub switched : Book → ℕ → Bool → Book
switched b f on =
    with_register b (record { items = slice_set b.register.items (f - 1) (set_on (facility_at b.register (f - 1)) on) })

-- a switching on the book b answers r and leaves the book b'
abbrev pub Switches : Book → ℕ → Bool → Answer (Unit {0}) → Book → Type 0
Switches b f on r b' = Does (switch_rows b f) (Ok tt) (switched b f on) b r b'
