-- How many hours count: the stress hours, and the failed hours of the test that are no stress hours.
use Rattle.std.proofs.Common.{◌≡◌, ℕ, zero, suc, ◌+◌, ◌-◌, ◌<◌, ◌≤◌, Bool, true, false, cond, not, ◌&&◌, ◌||◌, List, [], ◌∷◌, length, Some, Ok, count_by, refl, ap, arith}
use Rattle.std.specs.List.{range_with_len}
use Rattle.std.proofs.lemmas.List.Sums.{sum_by-cons, length-filter}
use Rattle.std.proofs.lemmas.Bool.Decides.{nat_tests}
use Rattle.calendar.specs.Calendar.{Calendar}
use Rattle.calendar.specs.Months.{month_begins, month_ends, month_hours}
use Rattle.calendar.specs.Stress.{is_stress, stress_hours}
use Rattle.metering.specs.declared.report.Energy.{Energy}
use Rattle.metering.specs.declared.report.Test.{Test}
use Rattle.metering.specs.Meaning.{ReportMeaning}
use Rattle.metering.specs.Testing.{failed_at}
use Rattle.metering.specs.Measuring.{counted_hours, only_failed, failed_outside, test_in_order, counting}

-- what passes either test, counted once: what passes the first, and what passes only the second
pub count_either : {X : Type 0} (p q : X → Bool) (xs : List X) → count_by (λ x. p x || q x) xs ≡ count_by p xs + count_by (λ x. q x && not (p x)) xs
count_either p q [] = refl
count_either p q (x ∷ xs) =
    let one : ◌≡◌ {A = ℕ} (cond (p x || q x) 1 0) (cond (p x) 1 0 + cond (q x && not (p x)) 1 0) = grind (arith, nat_tests) in
    omega (arith, one, count_either p q xs, sum_by-cons (λ x. cond (p x || q x) 1 0) x xs, sum_by-cons (λ x. cond (p x) 1 0) x xs, sum_by-cons (λ x. cond (q x && not (p x)) 1 0) x xs)

module _ (q : ℕ → Bool) where
  -- numbers of which none passes
  count_none : (n a : ℕ) → ((h : ℕ) → a ≤ h → h < a + n → q h ≡ false) → count_by q (range_with_len a n) ≡ 0
  count_none zero a fails = refl
  count_none (suc n) a fails =
      let none : ◌≡◌ {A = ℕ} (cond (q a) 1 0) 0 = ap (λ b. cond b 1 0) (fails a (omega arith) (omega arith)) in
      omega (arith, none, count_none n (a + 1) (λ h le lt. fails h (omega arith) (omega arith)), sum_by-cons (λ x. cond (q x) 1 0) a (range_with_len (a + 1) n))

  -- k numbers from a on, and n behind them, from b on
  count_parts : (k n a b m : ℕ) → a + k ≡ b → k + n ≡ m → count_by q (range_with_len a m) ≡ count_by q (range_with_len a k) + count_by q (range_with_len b n)
  count_parts zero n a b m at all = let same : a ≡ b = omega arith in let long : m ≡ n = omega arith in rw (same, long) (omega arith)
  count_parts (suc k) n a b zero at all = absurd (omega arith)
  count_parts (suc k) n a b (suc m) at all =
      omega (arith, count_parts k n (a + 1) b m (omega arith) (omega arith), sum_by-cons (λ x. cond (q x) 1 0) a (range_with_len (a + 1) m), sum_by-cons (λ x. cond (q x) 1 0) a (range_with_len (a + 1) k))

  -- only numbers from b on and before b + k pass
  count_span : (a to b k : ℕ) → a ≤ b → b + k ≤ to → ((h : ℕ) → h < b → q h ≡ false) → ((h : ℕ) → b + k ≤ h → q h ≡ false) → count_by q (range_with_len a (to - a)) ≡ count_by q (range_with_len b k)
  count_span a to b k le fits before after =
      omega (
        arith,
        count_parts (b - a) (to - b) a b (to - a) (omega arith) (omega arith),
        count_none (b - a) a (λ h past lt. before h (omega arith)),
        count_parts k (to - (b + k)) b (b + k) (to - b) refl (omega arith),
        count_none (to - (b + k)) (b + k) (λ h past lt. after h past),
      )

-- with a test in the month, its failed hours that are no stress hours count beside the stress hours
counted_with_test : (c : Calendar) (m first : ℕ) (es : List Energy) → month_begins c.year_hours m ≤ first → first + length es ≤ month_ends c.year_hours m → length (counted_hours c m (failed_at first es)) ≡ length (stress_hours c m) + failed_outside c first es
counted_with_test c m first es in_month fits =
    let hours = month_hours c.year_hours m in
    let fails = failed_at first es in
    let in-test = count_span (only_failed c first es) (month_begins c.year_hours m) (month_ends c.year_hours m) first (length es) in_month fits
    (λ h lt. grind (arith, nat_tests)) (λ h le. grind (arith, nat_tests)) in
    omega (arith, length-filter (λ h. is_stress c h || fails h) hours, count_either (is_stress c) fails hours, length-filter (is_stress c) hours, in-test)

-- what is counted with a test in order
pub counts_with : (x : ReportMeaning) (c : Calendar) (m : ℕ) (t : Test) (hours : ℕ) → test_in_order x.shortest x.longest c m (Some t) ≡ true → hours ≡ length (stress_hours c m) + failed_outside c t.first t.hours.now → Ok hours ≡ counting (record x { test = Some t }) c m
counts_with x c m t hours ok is =
    let counted = counted_with_test c m t.first t.hours.now (grind (arith, nat_tests)) (grind (arith, nat_tests)) in
    rw ok (cc (is, counted))
