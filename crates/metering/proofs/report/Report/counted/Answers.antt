use Rattle.std.proofs.Common.{arith}
use Rattle.std.proofs.lemmas.Grind.{common_steps}
use Rattle.metering.specs.Meaning.{report_meaning}
use Rattle.metering.proofs.CountedHours.{counts_with}
use Rattle.metering.proofs.report.Report.counted.Goals as goal

pub returns : goal.returns
returns g c =
    let x = report_meaning g.K.Kind c.args.self.now in
    rw c.in-Some.is (counts_with x c.args.calendar.now c.args.month c.in-Some.test _ (grind (arith, common_steps)) (grind (arith, common_steps)))
