use Rattle.std.proofs.Common.{◌∙◌, rules}
use Rattle.metering.specs.Meaning.{report_meaning}
use Rattle.ledger.specs.declared.course.Call.TheVariants as call
use Rattle.ledger.specs.Reporting.{letter_rows, measured_for}
use Rattle.ledger.specs.Upholding.{upheld}
use Rattle.ledger.specs.Runs.{noted}
use Rattle.ledger.proofs.JudgedRows.{accepted_value}
use Rattle.ledger.proofs.Reports.{by_its_report}
use Rattle.ledger.proofs.kept.Ledger.uphold.Goals as goal

pub returns-clause-upholds : goal.returns-clause-upholds
returns-clause-upholds g c =
    let b = c.args.self.now.book in
    let f = c.args.facility in
    let x = report_meaning g.K.Kind c.args.report.now in
    let n = c.in_ok-facility.facility.number in
    let own = accepted_value (letter_rows call.Answer b f x.letter) f n (search rules) in record {
      answer = search rules;
      after = c.answer_by.ensures ∙ by_its_report (upheld b) (λ y. measured_for b y x) f n c.in_ok-measured.measured own c.in_ok-measured.ensures;
    }

pub returns-clause-recorded : goal.returns-clause-recorded
returns-clause-recorded g c = λ j h. noted j _ c.args.self.now _ h (returns-clause-upholds g c)

pub returns-in_err-facility-clause-recorded : goal.returns-in_err-facility-clause-recorded
returns-in_err-facility-clause-recorded g c = λ j h. noted j _ c.args.self.now _ h (search rules)

pub returns-in_err-measured-clause-recorded : goal.returns-in_err-measured-clause-recorded
returns-in_err-measured-clause-recorded g c = λ j h. noted j _ c.args.self.now _ h (search rules)

pub returns-in_err-answerable-clause-recorded : goal.returns-in_err-answerable-clause-recorded
returns-in_err-answerable-clause-recorded g c = λ j h. noted j _ c.args.self.now _ h (search rules)
