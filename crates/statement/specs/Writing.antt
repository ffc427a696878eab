-- Writing a statement: its refusals, and what the buffer holds afterwards. Serves src/writing.rt.
use Rattle.std.specs.Prelude.{ℕ, Bool, not, List, [], ◌∷◌, ◌++◌, length, drop, nat_lt}
use Rattle.ledger.specs.declared.state.Line.{Line}
use Rattle.statement.specs.declared.fault.StatementFault.{StatementFault}
use Rattle.statement.specs.declared.fault.StatementFault.TheVariants.{Limits, Buffer}
use Rattle.statement.specs.Limits.{within}
use Rattle.statement.specs.Encoding.{encoding, length_of}

-- the refusals of writing into a buffer of so many bytes
abbrev pub write_rows : ℕ → List Line → ℕ → List (Bool × StatementFault)
write_rows m ls room = (not (within m ls), Limits) ∷ (nat_lt room (length_of (length ls)), Buffer) ∷ []

-- the statement, and behind it what stood there
abbrev pub written : ℕ → List Line → List ℕ → List ℕ
written m ls old = encoding m ls ++ drop (length_of (length ls)) old
