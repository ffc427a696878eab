use Rattle.std.proofs.Common.{◌≡◌, ◌+◌, ◌++◌, take, map, length}
use Rattle.calendar.specs.Stress.{stress_hours}
use Rattle.calendar.specs.Walk.{hours_to_come}
use Rattle.metering.specs.Testing.{failed_at}
use Rattle.metering.proofs.measuring.failed_records.Given as goal

abbrev pub invariant-loop-i : goal.invariant-loop-i
invariant-loop-i l =
    let fails = failed_at l.test.first l.test.hours.now in
    let hours = stress_hours l.calendar l.month in
    let to_come = hours_to_come l.i-iterator.iter in record {
      long : length l.failed ≡ 878;
      counted : l.i-iterator.count + length to_come ≡ length hours;
      marks : take l.i-iterator.count l.failed ++ map fails to_come ≡ map fails hours;
    }
