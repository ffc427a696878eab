use Rattle.std.proofs.Common.{◌≡◌, ◌++◌, take, drop}
use Rattle.statement.specs.Parts.{lines_of}
use Rattle.statement.proofs.parts.Parts.fill.Given as goal

abbrev pub invariant-loop-place : goal.invariant-loop-place
invariant-loop-place l = l.lines ≡ take l.place (lines_of l.self.rights.now l.self.penalties.now) ++ drop l.place l.initial.lines
