-- What a blank book keeps, as a new calendar is in form.
use Rattle.std.proofs.Common.{◌≡◌, ℕ, ◌<◌, [], length, get_or, replicate, sym, refl, ap, ◌∙◌, subst, inl, inr, arith, lit≤}
use Rattle.std.proofs.lemmas.List.{length-replicate, get_or-replicate, get_or_past}
use Rattle.std.proofs.lemmas.Bool.{cases_lt}
use Rattle.calendar.specs.Filling.{new_calendar}
use Rattle.calendar.specs.Form.{IsInForm}
use Rattle.ledger.specs.Form.{Bounded}
use Rattle.ledger.specs.Making.{no_line, blank}
use Rattle.ledger.proofs.Places.{same_at}
use Rattle.ledger.proofs.Keeping.{Kept}

-- n months of empty lines have no cents at any place
empty_line : (n k m f : ℕ) → get_or (get_or (replicate n (replicate k no_line)) m []) f no_line ≡ no_line
empty_line n k m f =
    elim (cases_lt m n) [
      | inl inside ↦ ap (λ ls. get_or ls f no_line) (get_or-replicate n m (replicate k no_line) [] inside) ∙ same_at k f no_line
      | inr past ↦ ap (λ ls. get_or ls f no_line) (get_or_past (replicate n (replicate k no_line)) m [] (omega (arith, length-replicate n (replicate k no_line))))
    ]

pub blank_kept : IsInForm new_calendar → Kept blank
blank_kept formed =
    let each : (m : ℕ) → m < 12 → length (get_or (replicate 12 (replicate 64 no_line)) m []) ≡ 64 = λ m lt. ap length (get_or-replicate 12 m (replicate 64 no_line) [] lt) in
    let bounded : (m f : ℕ) → Bounded (get_or (get_or (replicate 12 (replicate 64 no_line)) m []) f no_line) = λ m f. subst Bounded (sym (empty_line 12 64 m f)) (lit≤ tt, lit≤ tt) in
    record {
      formed = formed;
      sized = (lit≤ tt, lit≤ tt);
      shaped = (refl, refl);
      wide = λ a lt. omega arith;
      lined = each;
      booked = bounded;
      firm = λ f. lit≤ tt;
      within = λ f. lit≤ tt;
      whole = λ a lt. omega arith;
      priced = λ a lt. (omega arith, omega arith, omega arith, omega arith);
      dated = (lit≤ tt, lit≤ tt);
    }
