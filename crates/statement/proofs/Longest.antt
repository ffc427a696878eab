-- A statement that takes all of a buffer of `MOST_BYTES`.
use Rattle.std.proofs.Common.{◌≡◌, true, List, length, refl}
use Rattle.std.specs.Prelude.{replicate}
use Rattle.ledger.specs.declared.state.Line.{Line}
use Rattle.ledger.specs.Making.{no_line}
use Rattle.statement.specs.Limits.{within}
use Rattle.statement.specs.Encoding.{encoding}

-- the January of 64 lines
pub longest : (ls : List Line) × (within 1 ls ≡ true) × (length (encoding 1 ls) ≡ 1_026)
longest = (replicate 64 no_line, refl, refl)
