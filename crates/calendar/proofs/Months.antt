-- The hours of the months: how many, and in order.
use Rattle.std.proofs.Common.{◌≡◌, ℕ, ◌-◌, ◌*◌, ◌<◌, ◌≤◌, min, true, List, take, sum, sym, ap, ◌∙◌, inl, inr, arith}
use Rattle.std.proofs.lemmas.List.{take-take, take_all}
use Rattle.std.proofs.lemmas.List.Sums.{sum_by-take-le}
use Rattle.std.proofs.lemmas.Bool.{cases_lt}
use Rattle.std.proofs.lemmas.Bool.Decides.{nat_tests}
use Rattle.calendar.specs.Form.{is_year}
use Rattle.calendar.specs.Months.{days, first_months, month_begins, month_ends}

-- the twelve months have the hours of the year
pub year_days : (year : ℕ) → is_year year ≡ true → 24 * sum (days year) ≡ year
year_days year right = grind (arith, nat_tests)

-- a year has at most 8,784 hours
pub year_most : (year : ℕ) → is_year year ≡ true → year ≤ 8784
year_most year right = grind (arith, nat_tests)

-- more months have no fewer hours
pub first_months_rise : (year m n : ℕ) → m ≤ n → first_months year m ≤ first_months year n
unfolding first_months
first_months_rise year m n h =
    let front = ap (λ (l : List ℕ). sum l) (take-take m n (days year) h) in
    omega (arith, front, sum_by-take-le (λ x. x) (take n (days year)) m)

-- twelve months are all
pub first_months_twelve : (year n : ℕ) → first_months year (min 12 n) ≡ first_months year n
unfolding first_months
first_months_twelve year n =
    elim (cases_lt n 12) [
      | inl few ↦ (let same : min 12 n ≡ n = omega arith in ap (λ (k : ℕ). 24 * sum (take k (days year))) same)
      | inr many ↦
          (let all : min 12 n ≡ 12 = omega arith in
          ap (λ (k : ℕ). 24 * sum (take k (days year))) all ∙ ap (λ (l : List ℕ). 24 * sum l) (sym (take_all n (days year) many)))
    ]

-- behind the year no month has an hour
pub after_year : (year m : ℕ) → 12 < m → month_begins year m ≡ month_ends year m
after_year year m past =
    let same : min 12 (m - 1) ≡ min 12 m = omega arith in
    sym (first_months_twelve year (m - 1)) ∙ ap (first_months year) same ∙ first_months_twelve year m
