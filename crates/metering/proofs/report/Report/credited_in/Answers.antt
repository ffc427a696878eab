use Rattle.std.proofs.Common.{◌∙◌, None, Some, arith}
use Rattle.calendar.specs.Stress.{stress_hours}
use Rattle.metering.specs.Testing.{failed_in}
use Rattle.metering.proofs.FailedRecords.{none_marked, unfailed_is_credited}
use Rattle.metering.proofs.report.Report.credited_in.Goals as goal

pub returns-in-None : goal.returns-in-None
returns-in-None g c =
    let hours = stress_hours c.args.calendar.now c.args.month in
    rw c.in-None.is (c.credited.ensures ∙ unfailed_is_credited g.K.Kind.credit c.args.commitment (failed_in None) hours _ _ c.requires.one_each (none_marked hours 878 (omega arith)))

pub returns-in-Some : goal.returns-in-Some
returns-in-Some g c =
    let hours = stress_hours c.args.calendar.now c.args.month in
    rw c.in-Some.is (c.credited-in-Some.ensures ∙ unfailed_is_credited g.K.Kind.credit c.args.commitment (failed_in (Some c.in-Some.test)) hours _ _ c.requires.one_each c.failed_records.ensures)
