use Rattle.std.proofs.Common.{◌≡◌, length}
use Rattle.std.specs.Slice.Iter.{iter_rest}
use Rattle.calendar.specs.Walk.{hours_to_come}
use Rattle.calendar.proofs.year.walk.StressHoursIterator.next.Given as goal

abbrev pub invariant-loop-hour : goal.invariant-loop-hour
invariant-loop-hour l = hours_to_come l.self ≡ hours_to_come l.initial.self

abbrev pub decreases-loop-hour : goal.decreases-loop-hour
decreases-loop-hour l = length (iter_rest l.self.runs)
