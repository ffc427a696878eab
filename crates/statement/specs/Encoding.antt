-- The bytes of a statement. Serves the whole crate.
use Rattle.std.specs.Prelude.{ℕ, ◌≡◌, ◌+◌, ◌*◌, true, List, ◌∷◌, ◌++◌, length}
use Rattle.std.specs.List.{flat_map}
use Rattle.std.specs.Int.{w64, to_le_bytes}
use Rattle.ledger.specs.declared.state.Line.{Line}
use Rattle.statement.specs.Limits.{within}

-- the eight bytes of a line's right, and of its penalty, the least first
abbrev pub right_bytes : Line → List ℕ
right_bytes l = to_le_bytes w64 l.right

abbrev pub penalty_bytes : Line → List ℕ
penalty_bytes l = to_le_bytes w64 l.penalty

-- The bytes of a statement: its month, how many lines it has, all rights, and then all penalties. So January with the
-- one line of right 300 and penalty 2 is 1, 1, then 44, 1, 0, 0, 0, 0, 0, 0, and then 2, 0, 0, 0, 0, 0, 0, 0.
abbrev pub encoding : ℕ → List Line → List ℕ
encoding m ls = m ∷ length ls ∷ (flat_map right_bytes ls ++ flat_map penalty_bytes ls)

-- how many bytes the statement of n lines has
abbrev pub length_of : ℕ → ℕ
length_of n = 2 + 16 * n

-- two statements that have the same bytes are the same
abbrev pub Distinct : Type 0
Distinct =
    (m n : ℕ) (ls hs : List Line) → within m ls ≡ true → within n hs ≡ true → encoding m ls ≡ encoding n hs → (m ≡ n) × (ls ≡ hs)
