-- Where the first run stands that is out of form.
use Rattle.std.proofs.Common.{◌≡◌, ℕ, ◌+◌, ◌-◌, ◌<◌, ◌≤◌, Bool, true, false, not, ◌&&◌, List, length, get_or, nat_lt, nat_le, Some, None, inl, inr, sym, ap, ◌∙◌, arith}
use Rattle.std.specs.List.{range_with_len, position_or_len}
use Rattle.std.proofs.lemmas.List.FromFn.{length-range_with_len, get_or-range_with_len}
use Rattle.std.proofs.lemmas.List.Sums.{position_or_len_is, fails_before_first}
use Rattle.std.proofs.lemmas.Bool.{cases_eq, cond-true, cond-false, lt-ltb, le-ltb, not-false}
use Rattle.std.proofs.lemmas.Bool.Decides.{nat_tests}
use Rattle.calendar.specs.declared.run.Run.{Run}
use Rattle.calendar.specs.Runs.{ends}
use Rattle.calendar.specs.Form.{run_at, in_form, first_bad}

module _ (year : ℕ) (rs : List Run) where
  -- a run is in form by the first hour at which it may begin
  pub form_by : (k free : ℕ) → (k ≡ 0 → free ≡ 0) → (0 < k → free ≡ ends (run_at rs (k - 1)) + 1) → in_form year rs k ≡ (nat_le 1 (run_at rs k).len && nat_le (ends (run_at rs k)) year && nat_le free (run_at rs k).first)
  form_by k free at_first behind =
      elim (cases_eq k 0) [
        | inl is ↦ (let none : free ≡ 0 = at_first is in grind (arith, nat_tests))
        | inr later ↦ (let next : free ≡ ends (run_at rs (k - 1)) + 1 = behind (omega arith) in grind (arith, nat_tests))
      ]

  -- where each run up to k is in form, and the one at k, if there is one, is not, k is the first that is not
  first_at : (k : ℕ) → k ≤ length rs → ((j : ℕ) → j < k → in_form year rs j ≡ true) → (k < length rs → in_form year rs k ≡ false) → position_or_len (λ j. not (in_form year rs j)) (range_with_len 0 (length rs)) ≡ k
  first_at k inside before at =
      let bad : ℕ → Bool = λ j. not (in_form year rs j) in
      let places = range_with_len 0 (length rs) in
      let place : (j : ℕ) → j < length rs → get_or places j 0 ≡ j = λ j there. get_or-range_with_len 0 (length rs) j 0 there ∙ omega arith in
      let long = length-range_with_len 0 (length rs) in
      position_or_len_is bad places k 0 (omega (arith, inside, long))
      (λ j lt. ap bad (place j (omega (arith, lt, inside))) ∙ ap not (before j lt))
      (λ there. ap bad (place k (omega (arith, there, long))) ∙ ap not (at (omega (arith, there, long))))

  pub first_bad_at : (k : ℕ) → k < length rs → ((j : ℕ) → j < k → in_form year rs j ≡ true) → in_form year rs k ≡ false → first_bad year rs ≡ Some k
  first_bad_at k there before bad =
      let places = range_with_len 0 (length rs) in
      let at = first_at k (omega arith) before (λ _. bad) in
      let long = length-range_with_len 0 (length rs) in
      cond-true (nat_lt _ (length places)) _ None (lt-ltb _ _ (omega (arith, at, long, there))) ∙ ap Some at

  pub first_bad_none : ((j : ℕ) → j < length rs → in_form year rs j ≡ true) → first_bad year rs ≡ None
  first_bad_none each =
      let places = range_with_len 0 (length rs) in
      let at = first_at (length rs) (omega arith) each (λ there. absurd (omega (arith, there))) in
      let long = length-range_with_len 0 (length rs) in
      cond-false (nat_lt _ (length places)) _ None (le-ltb _ _ (omega (arith, at, long)))

  -- where none is out of form, each is in form
  pub each_in_form : first_bad year rs ≡ None → (k : ℕ) → k < length rs → in_form year rs k ≡ true
  each_in_form none k there =
      let bad : ℕ → Bool = λ j. not (in_form year rs j) in
      let places = range_with_len 0 (length rs) in
      let long = length-range_with_len 0 (length rs) in
      let past : length places ≤ position_or_len bad places = grind (arith, nat_tests) in
      let passes = fails_before_first bad places k 0 (omega (arith, past, long, there)) in
      not-false _ (ap bad (sym (get_or-range_with_len 0 (length rs) k 0 there ∙ omega arith)) ∙ passes)
