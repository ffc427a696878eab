use Rattle.std.proofs.Common.{◌≡◌, ◌<◌, Bool, length, length-set, refl, ap, arith}
use Rattle.calendar.specs.Stress.{stress_hours}
use Rattle.calendar.specs.Walk.{hours_to_come}
use Rattle.metering.specs.Testing.{failed_at}
use Rattle.metering.proofs.FailedRecords.{next_marked, all_marked}
use Rattle.metering.proofs.measuring.failed_records.Goals as goal

pub loop-i-init : goal.loop-i-init
loop-i-init c =
    let none : c.into_iter-i-iterator.result.count ≡ 0 = cc in
    let all : hours_to_come c.into_iter-i-iterator.result.iter ≡ stress_hours c.args.calendar.now c.args.month = cc in
    record { long = refl; counted = omega (arith, none, ap length all); marks = rw (none, all) refl }

pub bounds-failed-i : goal.bounds-failed-i
bounds-failed-i c = omega (arith, ap length c.in-Some.ensures.steps.0, c.in-Some.ensures.steps.1)

pub loop-i-preserved : goal.loop-i-preserved
loop-i-preserved c =
    let steps = c.in-Some.ensures.steps in
    let inside : c.loop-i.i-iterator.count < length c.loop-i.failed = omega (arith, ap length steps.0) in
    let marked = next_marked (failed_at c.args.test.now.first c.args.test.now.hours.now) _ _ _ c.loop-i.failed c.loop-i.invariant.marks c.in-Some.hour _ inside steps.0 in
    record { long = omega (arith, length-set {A = Bool}); counted = omega (arith, ap length steps.0); marks = cc }

pub returns : goal.returns
returns c = all_marked _ _ _ _ c.loop-i.failed c.loop-i.invariant.marks c.loop-i.invariant.counted c.in-None.ensures.steps.0.0
