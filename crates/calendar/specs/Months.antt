-- The months of a year: Gregorian, with a February of 29 days where the year has 8,784 hours.
use Rattle.std.specs.Prelude.{ℕ, ◌-◌, ◌*◌, cond, List, [], ◌∷◌, take, sum, ◌==◌}
use Rattle.calendar.specs.Runs.{span}

-- the days of the twelve months
abbrev pub days : ℕ → List ℕ
days year = 31 ∷ cond (year == 8784) 29 28 ∷ 31 ∷ 30 ∷ 31 ∷ 30 ∷ 31 ∷ 31 ∷ 30 ∷ 31 ∷ 30 ∷ 31 ∷ []

-- the hours of the first n months; beyond twelve, those of the year
unfoldable pub first_months : ℕ → ℕ → ℕ
first_months year n = 24 * sum (take n (days year))

-- the first hour of the month m, counted from 1. The months 0 and 13 and on have no hours
abbrev pub month_begins : ℕ → ℕ → ℕ
month_begins year m = first_months year (m - 1)

-- the hour after the month's last
abbrev pub month_ends : ℕ → ℕ → ℕ
month_ends year m = first_months year m

-- the hours of a month, ascending
abbrev pub month_hours : ℕ → ℕ → List ℕ
month_hours year m = span (month_begins year m) (month_ends year m)
