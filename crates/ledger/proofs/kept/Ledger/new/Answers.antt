use Rattle.std.proofs.Common.{sym, ap, subst}
use Rattle.calendar.specs.Form.{IsInForm}
use Rattle.ledger.specs.Runs.{made}
use Rattle.ledger.proofs.Keeping.{Kept}
use Rattle.ledger.proofs.Blank.{blank_kept}
use Rattle.ledger.proofs.kept.Ledger.new.Goals as goal

pub invariant_of-result : goal.invariant_of-result
invariant_of-result c =
    let is = c.blank_book.ensures.value in
    subst Kept (sym is) (blank_kept (subst IsInForm (ap (λ b. b.calendar) is) c.blank_book.ensures.kept))

pub returns : goal.returns
returns c = record { book = c.blank_book.ensures.value; recorded = made _ c.blank_book.ensures.value }
