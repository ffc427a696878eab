-- What calendars and the laws of sharing allow and what they do not, by cases at their limits and just beside them.
-- Serves src/lib.rt.
use Rattle.std.specs.Prelude.{ℕ, ◌*◌, Bool, true, false, List, [], ◌∷◌, map, replicate}
use Rattle.std.specs.List.{range_with_len}
use Rattle.calendar.specs.declared.run.Run.{Run}
use Rattle.calendar.specs.Form.{IsInForm}
use Rattle.sharing.specs.Rule.{Shareable, Near, Lawful}
use Rattle.sharing.specs.Remainder.{Fair}

pub data Case : Type 0 where
  -- a calendar of so many hours may have these runs
  calendar : (year : ℕ) (runs : List Run) (is_so : Bool) → Case
  -- a rule can be asked to share a total over rows of these MWh
  shareable : (total : ℕ) (mwhs : List ℕ) (is_so : Bool) → Case
  -- a charge is less than a cent from the exact share that a weight has among all
  near : (total all weight charge : ℕ) (is_so : Bool) → Case
  -- weights and charges for rows of these MWh keep what every rule keeps
  lawful : (total : ℕ) (mwhs weights charges : List ℕ) (is_so : Bool) → Case
  -- the charges to rows of these MWh are fair
  fair : (total : ℕ) (mwhs charges : List ℕ) (is_so : Bool) → Case

-- it is so, or it is not
abbrev pub Is : Bool → Type 0 → Type 0
Is true P = P
Is false P = P → ⊥

-- what it is for a case to be decided rightly
abbrev pub Decided : Case → Type 0
Decided (calendar year runs is_so) = Is is_so (IsInForm (record { year_hours = year; runs = runs }))
Decided (shareable total ms is_so) = Is is_so (Shareable total ms)
Decided (near total all weight charge is_so) = Is is_so (Near total all weight charge)
Decided (lawful total ms weights charges is_so) = Is is_so (Lawful total ms weights charges)
Decided (fair total ms charges is_so) = Is is_so (Fair total ms charges)

-- a run of stress hours
abbrev pub run : ℕ → ℕ → Run
run from hours = record { first = from; len = hours }

-- n runs of two hours, twenty hours apart
abbrev pub short_runs : ℕ → List Run
short_runs n = map (λ i. run (20 * i) 2) (range_with_len 0 n)

abbrev pub calendar_cases : List Case
calendar_cases =
    calendar 8_760 (run 0 438 ∷ []) true
    ∷ calendar 8_761 (run 0 439 ∷ []) false
    ∷ calendar 8_760 (short_runs 367) false
    ∷ calendar 8_760 (run 0 438 ∷ run 500 0 ∷ []) false
    ∷ calendar 8_760 (run 8_323 438 ∷ []) false
    ∷ calendar 8_760 (run 0 438 ∷ run 438 1 ∷ []) false
    ∷ calendar 8_760 (run 0 437 ∷ []) false
    ∷ calendar 8_760 (run 0 877 ∷ []) false
    ∷ []

-- three rows, or weights, of 1
abbrev pub ones : List ℕ
ones = 1 ∷ 1 ∷ 1 ∷ []

abbrev pub shareable_cases : List Case
shareable_cases =
    shareable 30_000_000_000 (40_000_000 ∷ []) true
    ∷ shareable 30_000_000_001 (40_000_000 ∷ []) false
    ∷ shareable 30_000_000_000 (40_000_000 ∷ 1 ∷ []) false
    ∷ shareable 0 (replicate 1_024 0) true
    ∷ shareable 0 (replicate 1_025 0) false
    ∷ []

abbrev pub near_cases : List Case
near_cases =
    near 100 3 1 32 false
    ∷ near 100 3 1 33 true
    ∷ near 100 3 1 34 true
    ∷ near 100 3 1 35 false
    ∷ near 100 4 1 24 false
    ∷ near 100 4 1 25 true
    ∷ near 100 4 1 26 false
    ∷ []

abbrev pub lawful_cases : List Case
lawful_cases =
    lawful 100 ones ones (33 ∷ 33 ∷ 34 ∷ []) true
    ∷ lawful 100 ones ones (34 ∷ 33 ∷ 33 ∷ []) true
    ∷ lawful 100 ones ones (33 ∷ 33 ∷ 33 ∷ []) false
    ∷ lawful 100 ones ones (32 ∷ 34 ∷ 34 ∷ []) false
    ∷ lawful 100 ones ones (33 ∷ 33 ∷ 34 ∷ 0 ∷ []) false
    ∷ lawful 100 ones (1 ∷ 1 ∷ 1 ∷ 0 ∷ []) (33 ∷ 33 ∷ 34 ∷ []) false
    ∷ lawful 0 (1 ∷ []) (40_000_001 ∷ []) (0 ∷ []) false
    ∷ lawful 0 (0 ∷ []) (0 ∷ []) (1 ∷ []) false
    ∷ []

abbrev pub fair_cases : List Case
fair_cases =
    fair 100 (1 ∷ 2 ∷ []) (33 ∷ 67 ∷ []) true
    ∷ fair 100 (1 ∷ 2 ∷ []) (32 ∷ 67 ∷ []) false
    ∷ fair 100 (1 ∷ 2 ∷ []) (33 ∷ 66 ∷ []) false
    ∷ fair 100 (1 ∷ 2 ∷ []) (34 ∷ 66 ∷ []) false
    ∷ fair 101 ones (35 ∷ 33 ∷ 33 ∷ []) false
    ∷ fair 100 ones (33 ∷ 34 ∷ 33 ∷ []) false
    ∷ []
