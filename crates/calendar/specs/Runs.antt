-- What `src/run.rt` cites: a run of hours.
use Rattle.std.specs.Prelude.{ℕ, ◌+◌, ◌-◌, min, max, Bool, ◌&&◌, List, nat_le, nat_lt}
use Rattle.std.specs.List.{range_with_len}
use Rattle.calendar.specs.declared.run.Run.{Run}

-- the hours from `from` on and before `to`
abbrev pub span : ℕ → ℕ → List ℕ
span from to = range_with_len from (to - from)

-- the hour after a run's last
abbrev pub ends : Run → ℕ
ends r = r.first + r.len

-- whether an hour is one of the run's
abbrev pub covers : Run → ℕ → Bool
covers r h = nat_le r.first h && nat_lt h (ends r)

-- the run's hours from `from` on and before `to`
abbrev pub part : ℕ → ℕ → Run → List ℕ
part from to r = span (max from r.first) (min to (ends r))

-- how many they are
abbrev pub part_hours : ℕ → ℕ → Run → ℕ
part_hours from to r = min to (ends r) - max from r.first
