-- How a calendar is made, what a filling is refused for, and the calendar that it leaves.
use Rattle.std.specs.Prelude.{ℕ, ◌+◌, Bool, not, ◌&&◌, List, [], ◌∷◌, map, length, is_some, unwrap_or, ◌==◌, nat_le}
use Rattle.std.specs.List.{zip}
use Rattle.calendar.specs.declared.fault.CalendarFault.{CalendarFault}
use Rattle.calendar.specs.declared.fault.CalendarFault.TheVariants as fault
use Rattle.calendar.specs.declared.run.Run.{Run}
use Rattle.calendar.specs.Calendar.{Calendar}
use Rattle.calendar.specs.Form.{is_year, first_bad, right_share}

-- a new calendar: of a common year, all of whose stress hours are those of January
abbrev pub new_calendar : Calendar
new_calendar = record { year_hours = 8_760; runs = record { first = 0; len = 744 } ∷ [] }

-- there are as many lengths as first hours, and at most 366
abbrev pub right_sizes : List ℕ → List ℕ → Bool
right_sizes firsts lengths = length firsts == length lengths && nat_le (length firsts) 366

-- the runs that are given, each by its first hour and its length
abbrev pub given_runs : List ℕ → List ℕ → List Run
given_runs firsts lengths = map (λ p. record { first = p.0; len = p.1 }) (zip firsts lengths)

-- the calendar of a year that is given by its hours and its runs
abbrev pub given_year : ℕ → List ℕ → List ℕ → Calendar
given_year year firsts lengths = record { year_hours = year; runs = given_runs firsts lengths }

-- the refusals of a year; a run that is out of form has its number, counted from 1, for a place
abbrev pub fill_rows : ℕ → List ℕ → List ℕ → List (Bool × CalendarFault)
fill_rows year firsts lengths =
    let rs = given_runs firsts lengths in
    (not (is_year year), fault.YearHours)
    ∷ (not (right_sizes firsts lengths), fault.Sizes)
    ∷ (is_some (first_bad year rs), fault.Run (unwrap_or (first_bad year rs) 0 + 1))
    ∷ (not (right_share year rs), fault.Share) ∷ []
