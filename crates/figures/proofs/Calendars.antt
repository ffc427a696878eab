-- A calendar that is in form, and calendars that are wrong in one thing.
use Rattle.std.proofs.Common.{◌≡◌, ℕ, ◌≤◌, true, List, [], ◌∷◌, refl, subst, arith, lit≤}
use Rattle.std.proofs.lemmas.Bool.{false≢true}
use Rattle.calendar.specs.declared.run.Run.{Run}
use Rattle.calendar.specs.Form.{in_form, IsInForm}
use Rattle.figures.specs.Laws.{run, short_runs}

abbrev InForm : ℕ → List Run → Type 0
InForm year runs = IsInForm (record { year_hours = year; runs = runs })

pub one_run : InForm 8_760 (run 0 438 ∷ [])
one_run = record {
  year = refl;
  few = lit≤ tt;
  formed = λ k there. let first : 0 ≡ k = omega (arith, there) in subst (λ i. in_form 8_760 (run 0 438 ∷ []) i ≡ true) first refl;
  share = refl;
}

pub no_year : InForm 8_761 (run 0 439 ∷ []) → ⊥
no_year ok = false≢true ok.year

pub too_many : InForm 8_760 (short_runs 367) → ⊥
too_many ok = let many : 367 ≤ 366 = ok.few in omega (arith, many)

pub no_hour : InForm 8_760 (run 0 438 ∷ run 500 0 ∷ []) → ⊥
no_hour ok = false≢true (ok.formed 1 (lit≤ tt))

pub past_the_year : InForm 8_760 (run 8_323 438 ∷ []) → ⊥
past_the_year ok = false≢true (ok.formed 0 (lit≤ tt))

pub touching : InForm 8_760 (run 0 438 ∷ run 438 1 ∷ []) → ⊥
touching ok = false≢true (ok.formed 1 (lit≤ tt))

pub too_few_hours : InForm 8_760 (run 0 437 ∷ []) → ⊥
too_few_hours ok = false≢true ok.share

pub too_many_hours : InForm 8_760 (run 0 877 ∷ []) → ⊥
too_many_hours ok = false≢true ok.share
