-- The lines that a statement's amounts stand for. Serves src/parts.rt.
use Rattle.std.specs.Prelude.{ℕ, ◌<◌, ◌^◌, List, map}
use Rattle.std.specs.List.{zip}
use Rattle.std.specs.Int.{w64, from_le_bytes}
use Rattle.ledger.specs.declared.state.Line.{Line}

-- the amount of which these are the bytes
abbrev pub amount_of : List ℕ → ℕ
amount_of bytes = from_le_bytes w64 bytes

-- the line of which these are the bytes of the right and of the penalty
abbrev pub line_of : List ℕ → List ℕ → Line
line_of r p = record { right = amount_of r; penalty = amount_of p }

-- the lines of which these are the bytes of the rights and of the penalties
abbrev pub lines_of : List (List ℕ) → List (List ℕ) → List Line
lines_of rs ps = map (λ x. line_of x.0 x.1) (zip rs ps)

-- the line's amounts fit eight bytes
abbrev pub Fits : Line → Type 0
Fits l = (l.right < 2 ^ 64) × (l.penalty < 2 ^ 64)
