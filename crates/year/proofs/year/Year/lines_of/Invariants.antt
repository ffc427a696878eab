use Rattle.std.specs.List.{All}
use Rattle.ledger.specs.Form.{Bounded}
use Rattle.year.proofs.year.Year.lines_of.Given as goal

abbrev pub invariant-loop-facility : goal.invariant-loop-facility
invariant-loop-facility l = All Bounded l.lines
