-- The stress hours of a calendar and of its months.
use Rattle.std.specs.Prelude.{ℕ, Bool, List, filter}
use Rattle.std.specs.List.{list_any}
use Rattle.calendar.specs.declared.run.Run.{Run}
use Rattle.calendar.specs.Calendar.{Calendar}
use Rattle.calendar.specs.Runs.{covers}
use Rattle.calendar.specs.Months.{month_hours}

-- whether some run covers the hour
abbrev pub some_covers : List Run → ℕ → Bool
some_covers rs h = list_any (λ r. covers r h) rs

-- whether an hour is a stress hour
abbrev pub is_stress : Calendar → ℕ → Bool
is_stress c h = some_covers c.runs h

-- the stress hours of a month, ascending: those of its hours that lie in some run
abbrev pub stress_hours : Calendar → ℕ → List ℕ
stress_hours c m = filter (is_stress c) (month_hours c.year_hours m)
