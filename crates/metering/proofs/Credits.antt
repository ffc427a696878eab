-- No more energy is credited than required, and a test that is taken has an hour.
use Rattle.std.proofs.Common.{◌≡◌, ℕ, ◌*◌, ◌≤◌, Bool, not, ◌||◌, List, length, filter, Ok, Option, Some, None, IfSome, mul_comm, le_trans, mul-le-mul_right, arith}
use Rattle.std.specs.List.{All, zip}
use Rattle.std.proofs.lemmas.List.Sums.{sum_by-le, length-filter, count_by-le-length}
use Rattle.std.proofs.lemmas.List.Elements.{All-filter}
use Rattle.std.proofs.lemmas.Bool.Decides.{nat_tests}
use Rattle.std.proofs.lemmas.Slice.Zip.{length-zip, get_or-zip}
use Rattle.calendar.specs.Calendar.{Calendar}
use Rattle.calendar.specs.Months.{month_hours}
use Rattle.calendar.specs.Stress.{is_stress, stress_hours}
use Rattle.metering.specs.Meaning.{ReportMeaning}
use Rattle.metering.specs.Measuring.{counted_hours, credited_energy, counting, crediting}
use Rattle.metering.specs.Testing.{failed_in}
use Rattle.metering.specs.declared.report.Test.{Test}
use Rattle.metering.proofs.CountedHours.{count_either}

-- no hour is credited with more than the commitment of k kW
each_within : (k : ℕ) (fails : ℕ → Bool) (hours : List ℕ) (credits : List (ℕ → ℕ)) → All (λ credit. credit k ≤ k) credits → credited_energy k fails hours credits ≤ length hours * k
each_within k fails hours credits bounded =
    let passes : ℕ × (ℕ → ℕ) → Bool = λ p. not (fails p.0) in
    let within : ℕ × (ℕ → ℕ) → Type 0 = λ p. p.1 k ≤ k in
    let pairs = zip hours credits in
    let long = length-zip hours credits in
    let all : All within pairs = λ i d there. rw (get_or-zip hours credits i d (omega arith) (omega arith)) (bounded i d.1 (omega arith)) in
    let few : length (filter passes pairs) ≤ length hours = omega (arith, length-filter passes pairs, count_by-le-length passes pairs) in
    le_trans (sum_by-le (λ p. p.1 k) k (filter passes pairs) (All-filter passes within pairs all)) (mul-le-mul_right k few)

-- every stress hour counts
stress_counts : (c : Calendar) (m : ℕ) (fails : ℕ → Bool) → length (stress_hours c m) ≤ length (counted_hours c m fails)
stress_counts c m fails =
    let hours = month_hours c.year_hours m in
    omega (arith, length-filter (is_stress c) hours, length-filter (λ h. is_stress c h || fails h) hours, count_either (is_stress c) fails hours)

-- where so many hours count with a report, no more is credited than is required in them
pub credited_within : (x : ReportMeaning) (c : Calendar) (m k n : ℕ) → All (λ credit. credit k ≤ k) x.credits → counting x c m ≡ Ok n → crediting x c m k ≤ k * n
credited_within x c m k n bounded counted =
    let fails = failed_in x.test in
    let is : n ≡ length (counted_hours c m fails) = grind (arith, counted) in
    let all = le_trans (each_within k fails (stress_hours c m) x.credits bounded) (mul-le-mul_right k (stress_counts c m fails)) in
    rw is (omega (arith, all, mul_comm k (length (counted_hours c m fails))))

-- a test that is taken is as long as its kind wants it, so it has an hour
pub has_hour : (x : ReportMeaning) → 1 ≤ x.shortest → (c : Calendar) (m n : ℕ) (test : Option Test) → counting (record x { test = test }) c m ≡ Ok n → IfSome test (λ t. 1 ≤ length t.hours.now)
has_hour x some c m n None counted = tt
has_hour x some c m n (Some t) counted = grind (arith, nat_tests)
