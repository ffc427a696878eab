-- Which hours a year may have, and which runs of stress hours; so what every calendar keeps.
use Rattle.std.specs.Prelude.{◌≡◌, ℕ, ◌-◌, ◌*◌, ◌<◌, ◌≤◌, Bool, true, not, ◌&&◌, ◌||◌, List, ◌++◌, length, replicate, sum_by, Option, position, ◌==◌, nat_le, nat_lt, slice_index_or}
use Rattle.std.specs.List.{range_with_len}
use Rattle.calendar.specs.declared.run.Run.{Run}
use Rattle.calendar.specs.Calendar.{Calendar}
use Rattle.calendar.specs.Runs.{ends}

-- a common or a leap year has so many hours
abbrev pub is_year : ℕ → Bool
is_year hours = hours == 8_760 || hours == 8_784

-- a run of no hours
abbrev pub no_run : Run
no_run = record { first = 0; len = 0 }

-- the run at k, counted from 0
abbrev pub run_at : List Run → ℕ → Run
run_at rs k = slice_index_or rs k no_run

-- the run at k, if it is not the first, begins at least one hour after the end of the run before it
abbrev pub apart : List Run → ℕ → Bool
apart rs k = k == 0 || nat_lt (ends (run_at rs (k - 1))) (run_at rs k).first

-- the run at k is in form: it has an hour, ends within the year, and is apart from the run before it
abbrev pub in_form : ℕ → List Run → ℕ → Bool
in_form year rs k = nat_le 1 (run_at rs k).len && nat_le (ends (run_at rs k)) year && apart rs k

-- where the first run stands that is out of form, if there is one
abbrev pub first_bad : ℕ → List Run → Option ℕ
first_bad year rs = position (λ k. not (in_form year rs k)) (range_with_len 0 (length rs))

-- the hours of all runs
abbrev pub hours : List Run → ℕ
hours rs = sum_by (λ r. r.len) rs

-- the runs have at least 5 and at most 10 per cent of the year's hours
abbrev pub right_share : ℕ → List Run → Bool
right_share year rs = nat_le year (20 * hours rs) && nat_le (10 * hours rs) year

-- what every calendar keeps: its year, the number of its runs, each of them and their share are in form
pub record IsInForm (c : Calendar) : Type 0 where
  pub year : is_year c.year_hours ≡ true
  pub few : length c.runs ≤ 366
  pub formed : (k : ℕ) → k < length c.runs → in_form c.year_hours c.runs k ≡ true
  pub share : right_share c.year_hours c.runs ≡ true

-- an array with these runs at its front: behind them are runs of no hours
abbrev pub array_of : List Run → List Run
array_of rs = rs ++ replicate (366 - length rs) no_run
