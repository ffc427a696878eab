use Rattle.std.proofs.Common.{sym, ◌∙◌, subst, rules}
use Rattle.ledger.specs.declared.course.Call.TheVariants as call
use Rattle.ledger.specs.Closing.{booked_month, unsettled_rows}
use Rattle.ledger.specs.Course.{moved}
use Rattle.ledger.specs.Runs.{noted}
use Rattle.ledger.proofs.JudgedRows.{accepted_value}
use Rattle.ledger.proofs.Keeping.{Kept}
use Rattle.ledger.proofs.After.{closed_kept}
use Rattle.ledger.proofs.kept.Ledger.close.Goals as goal

pub returns-in_err-stage-clause-recorded : goal.returns-in_err-stage-clause-recorded
returns-in_err-stage-clause-recorded g c = λ j h. noted j _ c.args.self.now _ h (g.met.R.SharingRule.lawful c.args.rule.now, search rules)

pub returns-in_err-total-clause-recorded : goal.returns-in_err-total-clause-recorded
returns-in_err-total-clause-recorded g c = search (rules, noted, g.met.R.SharingRule.lawful)

pub invariant_of-self : goal.invariant_of-self
invariant_of-self g c =
    let s = c.args.self.now in
    let next = accepted_value (unsettled_rows s.book) (moved call.Close s.book.stage) c.in_ok-stage.stage c.in_ok-stage.ensures in
    subst Kept (sym (c.book_month.ensures ∙ (λ i. booked_month s.book (c.month_under_way-month.ensures i) (c.settle-total.ensures.lines i) (next i)))) (closed_kept s)
