-- Reading a statement: what each answer says of the bytes and of the lines. Serves src/reading.rt.
use Rattle.std.specs.Prelude.{ℕ, ◌≡◌, ◌≢◌, ◌<◌, ◌≤◌, Bool, true, false, ◌&&◌, List, [], ◌∷◌, ◌++◌, length, drop, ◌==◌, nat_le, nat_lt, slice_index, Result, Ok, Err}
use Rattle.ledger.specs.declared.state.Line.{Line}
use Rattle.ledger.specs.Judged.{judged, kept_or}
use Rattle.statement.specs.declared.fault.StatementFault.{StatementFault}
use Rattle.statement.specs.declared.fault.StatementFault.TheVariants.{Length, Limits, Buffer}
use Rattle.statement.specs.Limits.{within}
use Rattle.statement.specs.Encoding.{encoding, length_of}

-- two bytes at least, and as many as the second of them asks for
abbrev pub in_form : List ℕ → Bool
in_form bytes = nat_le 2 (length bytes) && (length bytes == length_of (slice_index bytes 1))

-- the bytes are the statement of the month m and the lines ls, which it may say
abbrev pub States : List ℕ → ℕ → List Line → Type 0
States bytes m ls = (within m ls ≡ true) × (bytes ≡ encoding m ls)

-- the lines, and behind them what stood there
abbrev pub filled : List Line → List Line → List Line
filled ls old = ls ++ drop (length ls) old

-- what the bytes of the statement of m and ls are read as, and the lines that then stand: refused where there is no
-- room for all of them
abbrev pub Reads : ℕ → List Line → List Line → Result (ℕ × ℕ) StatementFault → List Line → Type 0
Reads m ls old result new =
    (result ≡ judged ((nat_lt (length old) (length ls), Buffer) ∷ []) (m, length ls))
    × (new ≡ kept_or result (filled ls old) old)

-- what a refusal says of the bytes, and of how many lines there is room for
abbrev pub Refused : List ℕ → ℕ → StatementFault → Type 0
Refused bytes room Length = in_form bytes ≡ false
Refused bytes room Limits = (in_form bytes ≡ true) × ((m : ℕ) (ls : List Line) → within m ls ≡ true → bytes ≢ encoding m ls)
Refused bytes room Buffer = (m : ℕ) × (ls : List Line) × States bytes m ls × (room < length ls)

-- what an answer says of the bytes, and of the lines before and after the call
abbrev pub Answers : List ℕ → List Line → Result (ℕ × ℕ) StatementFault → List Line → Type 0
Answers bytes old (Ok (m, n)) new =
    (ls : List Line) × States bytes m ls × (length ls ≡ n) × (n ≤ length old) × (new ≡ filled ls old)
Answers bytes old (Err e) new = Refused bytes (length old) e × (new ≡ old)

-- whatever lines the bytes are read into, they are read as the statement of m and ls
abbrev pub ReadAs : List ℕ → ℕ → List Line → Type 0
ReadAs bytes m ls = (old new : List Line) (r : Result (ℕ × ℕ) StatementFault) → Answers bytes old r new → Reads m ls old r new
