-- What `src/year/walk.rt` cites: where a walk through a month's stress hours stands.
use Rattle.std.specs.Prelude.{◌≡◌, ℕ, List, [], ◌∷◌, ◌++◌, Option, MatchOption}
use Rattle.std.specs.List.{flat_map}
use Rattle.std.specs.Slice.Iter.{iter_rest}
use Rattle.calendar.specs.declared.year.walk.StressHours.{StressHours}
use Rattle.calendar.specs.Runs.{span, part}

-- the hours still to come: those of the run under way, then the month's part of each run behind it
abbrev pub hours_to_come : StressHours → List ℕ
hours_to_come w = span w.under_way.start w.under_way.end ++ flat_map (part w.month.start w.month.end) (iter_rest w.runs)

-- one step of a walk from s to t: it gives the first hour still to come and leaves the others, or gives nothing where none is left
abbrev pub Steps : StressHours → Option ℕ → StressHours → Type 0
Steps s r t = MatchOption r ((hours_to_come s ≡ []) × (hours_to_come t ≡ [])) (λ h. hours_to_come s ≡ h ∷ hours_to_come t)
