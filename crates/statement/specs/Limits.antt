-- The limits of a statement. Serves src/form.rt.
use Rattle.std.specs.Prelude.{ℕ, Bool, ◌&&◌, List, length, nat_le}
use Rattle.std.specs.List.{list_all}
use Rattle.ledger.specs.declared.state.Line.{Line}

-- a right of at most 1,000,000,000 cents, and a penalty that is not above it
abbrev pub bounded : Line → Bool
bounded l = nat_le l.right 1_000_000_000 && nat_le l.penalty l.right

-- a month of the year, and at most 64 lines
abbrev pub counted : ℕ → ℕ → Bool
counted m n = nat_le 1 m && nat_le m 12 && nat_le n 64

-- what a statement may say
abbrev pub within : ℕ → List Line → Bool
within m ls = counted m (length ls) && list_all bounded ls
