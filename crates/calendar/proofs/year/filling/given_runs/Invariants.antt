use Rattle.std.proofs.Common.{◌≡◌, ◌-◌, ◌++◌, take, replicate}
use Rattle.calendar.specs.Form.{no_run}
use Rattle.calendar.specs.Filling.{given_runs}
use Rattle.calendar.proofs.year.filling.given_runs.Given as goal

abbrev pub invariant-loop-k : goal.invariant-loop-k
invariant-loop-k l = l.runs ≡ take l.k (given_runs l.firsts l.lengths) ++ replicate (366 - l.k) no_run
