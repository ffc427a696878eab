-- The stress hours of a month: which hours they are, in which order, and how many.
use Rattle.std.proofs.Common.{◌≡◌, ℕ, ◌-◌, ◌*◌, ◌<◌, ◌≤◌, true, length, sum_by, ap, ◌∙◌, arith}
use Rattle.std.proofs.lemmas.Bool.{and_parts}
use Rattle.std.proofs.lemmas.Bool.Decides.{nat_tests}
use Rattle.std.specs.List.{Contains, flat_map}
use Rattle.calendar.specs.Calendar.{Calendar}
use Rattle.calendar.specs.Form.{hours, IsInForm}
use Rattle.calendar.specs.Runs.{part, part_hours}
use Rattle.calendar.specs.Months.{month_begins, month_ends}
use Rattle.calendar.specs.Stress.{is_stress, stress_hours}
use Rattle.calendar.proofs.Keeping.{Ascending, kept_only, kept_every, kept_ascending}
use Rattle.calendar.proofs.Parts.{covered_parts, length-parts, parts_few}
use Rattle.calendar.proofs.Months.{year_most, first_months_rise}

-- the hour lies in the month
abbrev pub InMonth : Calendar → ℕ → ℕ → Type 0
InMonth c m h = (month_begins c.year_hours m ≤ h) × (h < month_ends c.year_hours m)

module _ (c : Calendar) (m : ℕ) where
  -- each lies in the month and in a run
  pub stress_hours_only : (h : ℕ) → Contains (stress_hours c m) h → InMonth c m h × (is_stress c h ≡ true)
  stress_hours_only h has =
      let begins = month_begins c.year_hours m in
      let only = kept_only (is_stress c) (month_ends c.year_hours m - begins) begins h has in
      ((only.0, omega (arith, only.0, only.1)), only.2)

  -- each hour that lies in the month and in a run is one of them
  pub stress_hours_every : (h : ℕ) → InMonth c m h → is_stress c h ≡ true → Contains (stress_hours c m) h
  stress_hours_every h in_month covered =
      let begins = month_begins c.year_hours m in
      kept_every (is_stress c) (month_ends c.year_hours m - begins) begins h in_month.0 (omega (arith, in_month.0, in_month.1)) covered

  -- they ascend, so none comes twice
  pub stress_hours_ascend : Ascending (stress_hours c m)
  stress_hours_ascend =
      let begins = month_begins c.year_hours m in
      kept_ascending (is_stress c) (month_ends c.year_hours m - begins) begins

-- whatever the span, the runs' parts of it have at most a tenth of the hours of the year
pub parts_most : (c : Calendar) → IsInForm c → (from to : ℕ) → sum_by (part_hours from to) c.runs ≤ 878
parts_most c formed from to =
    let most : 10 * hours c.runs ≤ c.year_hours = grind (arith, nat_tests, formed.share) in
    omega (arith, parts_few from to c.runs, most, year_most c.year_hours formed.year)

module _ (c : Calendar) (formed : IsInForm c) (m : ℕ) where
  -- they are the runs' parts of the month, one after another
  pub stress_hours_parts : stress_hours c m ≡ flat_map (part (month_begins c.year_hours m) (month_ends c.year_hours m)) c.runs
  stress_hours_parts =
      let year = c.year_hours in
      covered_parts c.runs (month_begins year m) (month_ends year m) (λ k h. (and_parts _ _ (formed.formed k h)).1) (first_months_rise year (m - 1) m (omega arith))

  -- how many they are
  pub length-stress_hours : length (stress_hours c m) ≡ sum_by (part_hours (month_begins c.year_hours m) (month_ends c.year_hours m)) c.runs
  length-stress_hours = ap length stress_hours_parts ∙ length-parts (month_begins c.year_hours m) (month_ends c.year_hours m) c.runs
