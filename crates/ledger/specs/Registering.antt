-- Registering: its figures, its refusals, firm power, and the facility that it adds. Serves src/registering.rt.
use Rattle.std.specs.Prelude.{ℕ, ◌+◌, ◌*◌, ◌/◌, min, Bool, false, not, ◌&&◌, List, [], ◌∷◌, ◌++◌, length, take, sum_by, Ok, nat_le}
use Rattle.std.specs.List.{list_all}
use Rattle.ledger.specs.declared.course.Call.TheVariants as call
use Rattle.ledger.specs.declared.refusal.Refusal.TheVariants as refusal
use Rattle.ledger.specs.declared.registering.Module.{Module}
use Rattle.ledger.specs.declared.state.Book.{Book}
use Rattle.ledger.specs.Judged.{Rows, Answer, Does}
use Rattle.ledger.specs.Course.{course}
use Rattle.ledger.specs.Changes.{with_register}

-- whether a module's figures are within their limits
abbrev pub right_module : Module → Bool
right_module m = nat_le m.installed 1_000_000 && nat_le m.coefficient 1_000

abbrev pub right_modules : List Module → Bool
right_modules ms = list_all right_module ms

-- whether a facility may have so many modules: one to four
abbrev pub right_count : ℕ → Bool
right_count count = nat_le 1 count && nat_le count 4

-- whether registering's figures are within their limits: a letter A to Z, the count and its modules, and the access
abbrev pub right_figures : ℕ → List Module → ℕ → ℕ → Bool
right_figures letter modules count access =
    (nat_le 65 letter && nat_le letter 90) && right_count count && right_modules (take count modules) && nat_le access 1_000_000

-- a module's firm power in watts
abbrev pub watts : Module → ℕ
watts m = m.installed * m.coefficient

-- firm power: the whole kW that the watts of the modules make together, and no more than the access; a part of a kW is
-- dropped from their sum alone
abbrev pub firm_power : List Module → ℕ → ℕ → ℕ
firm_power modules count access = min access (sum_by watts (take count modules) / 1_000)

abbrev pub register_rows : Book → ℕ → List Module → ℕ → ℕ → Rows
register_rows b letter modules count access =
    course call.Register b.stage
    ++ (nat_le 64 (length b.register.items), refusal.NoRoom)
    ∷ (not (right_figures letter modules count access), refusal.OutOfLimits) ∷ []

-- one facility more, switched off
abbrev pub registered : Book → ℕ → ℕ → Book
registered b letter firm =
    with_register b (record { items = b.register.items ++ (record { letter = letter; firm = firm; on = false }) ∷ [] })

-- a registering on the book b answers r, the facility's number where it is accepted, and leaves the book b'
abbrev pub Registers : Book → ℕ → List Module → ℕ → ℕ → Answer ℕ → Book → Type 0
Registers b letter modules count access r b' =
    Does (register_rows b letter modules count access) (Ok (length b.register.items + 1))
    (registered b letter (firm_power modules count access)) b r b'
