use Rattle.std.proofs.Common.{not, leb, [], ◌∷◌, length}
use Rattle.ledger.specs.declared.course.Call.TheVariants as call
use Rattle.ledger.specs.declared.refusal.Refusal.TheVariants as refusal
use Rattle.ledger.specs.Awarding.{over_firm, right_award}
use Rattle.ledger.specs.Judged.{Rows}
use Rattle.ledger.specs.Numbers.{admission}
use Rattle.ledger.proofs.JudgedRows.{refused_early}
use Rattle.ledger.proofs.kept.Ledger.may_award.Goals as goal

pub returns-in_err-facility : goal.returns-in_err-facility
returns-in_err-facility c =
    let b = c.args.self.now.book in
    let f = c.args.facility in
    let more : Rows = (leb 32 (length b.trade.items), refusal.NoRoom) ∷ (not (right_award c.args.kw c.args.price), refusal.OutOfLimits) ∷ (over_firm b f c.args.kw, refusal.OverFirm) ∷ [] in
    refused_early (admission call.Award b f) more f f (λ n. n.number) c.in_err-facility.field-0.0 c.from_residual.result c.in_err-facility.ensures c.from_residual.ensures.1
