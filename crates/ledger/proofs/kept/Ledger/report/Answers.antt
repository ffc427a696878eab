use Rattle.std.proofs.Common.{◌∙◌, rules}
use Rattle.metering.specs.Meaning.{report_meaning}
use Rattle.ledger.specs.declared.course.Call.TheVariants as call
use Rattle.ledger.specs.Reporting.{letter_rows, measured_for, with_measured}
use Rattle.ledger.specs.Runs.{noted}
use Rattle.ledger.proofs.JudgedRows.{accepted_value}
use Rattle.ledger.proofs.Reports.{by_its_report}
use Rattle.ledger.proofs.kept.Ledger.report.Goals as goal

pub returns-clause-reports : goal.returns-clause-reports
returns-clause-reports g c =
    let b = c.args.self.now.book in
    let f = c.args.facility in
    let x = report_meaning g.K.Kind c.args.report.now in
    let n = c.in_ok-facility.facility.number in
    let own = accepted_value (letter_rows call.Report b f x.letter) f n (search rules) in record {
      answer = search rules;
      after = c.put_report.ensures ∙ by_its_report (with_measured b) (λ y. measured_for b y x) f n c.in_ok-measured.measured own c.in_ok-measured.ensures;
    }

pub returns-clause-recorded : goal.returns-clause-recorded
returns-clause-recorded g c = λ j h. noted j _ c.args.self.now _ h (returns-clause-reports g c)

pub returns-in_err-facility-clause-recorded : goal.returns-in_err-facility-clause-recorded
returns-in_err-facility-clause-recorded g c = λ j h. noted j _ c.args.self.now _ h (search rules)

pub returns-in_err-measured-clause-recorded : goal.returns-in_err-measured-clause-recorded
returns-in_err-measured-clause-recorded g c = λ j h. noted j _ c.args.self.now _ h (search rules)
