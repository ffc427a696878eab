-- What a book keeps when a facility is registered.
use Rattle.std.proofs.Common.{ℕ, ◌≤◌, length, ap, arith}
use Rattle.std.proofs.lemmas.List.{get_or_past}
use Rattle.ledger.specs.declared.state.Book.{Book}
use Rattle.ledger.specs.Form.{no_facility, held_in_all, Firm, Within}
use Rattle.ledger.specs.Registering.{registered}
use Rattle.ledger.proofs.Places.{each_push}

module _ (b : Book) (letter firm : ℕ) where
  pub registered_firm : firm ≤ 1_000_000 → Firm b.register → Firm (registered b letter firm).register
  registered_firm few kept = each_push (λ _ x. x.firm ≤ 1_000_000) b.register.items _ no_facility few (λ j _. kept j)

  -- a facility holds nothing before it is given out
  pub registered_within : Within b → Within (registered b letter firm)
  registered_within kept =
      let n = length b.register.items in
      let none = ap (λ x. x.firm) (get_or_past b.register.items n no_facility (omega arith)) in
      each_push (λ j x. held_in_all b.trade j ≤ x.firm) b.register.items _ no_facility (omega (arith, kept n, none)) (λ j _. kept j)
