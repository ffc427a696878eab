use Rattle.std.proofs.Common.{[], ◌∷◌, ◌-◌, not, ◌==◌, ap, ◌∙◌}
use Rattle.std.proofs.lemmas.List.{append_assoc}
use Rattle.ledger.specs.declared.refusal.Refusal.TheVariants as refusal
use Rattle.ledger.specs.Course.{course}
use Rattle.ledger.specs.Form.{facility_at}
use Rattle.ledger.specs.Judged.{Rows, judged}
use Rattle.ledger.specs.Numbers.{facility_given, admission}
use Rattle.ledger.proofs.JudgedRows.{refused_early}
use Rattle.ledger.proofs.kept.Ledger.may_report.Goals as goal

pub returns-in_err-facility : goal.returns-in_err-facility
returns-in_err-facility c =
    let b = c.args.self.now.book in
    let f = c.args.facility in
    let more : Rows = (not (c.args.letter == (facility_at b.register (f - 1)).letter), refusal.OtherLetter) ∷ [] in
    refused_early (admission c.args.call b f) more f f (λ n. n.number) c.in_err-facility.field-0.0 c.from_residual.result c.in_err-facility.ensures c.from_residual.ensures.1
    ∙ ap (λ (rows : Rows). judged rows f) (append_assoc (course c.args.call b.stage) (facility_given b f) more)
