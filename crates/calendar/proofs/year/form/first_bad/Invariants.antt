use Rattle.std.proofs.Common.{◌≡◌, ℕ, ◌+◌, ◌-◌, ◌<◌, true}
use Rattle.calendar.specs.Runs.{ends}
use Rattle.calendar.specs.Form.{run_at, in_form}
use Rattle.calendar.proofs.year.form.first_bad.Given as goal

abbrev pub invariant-loop-k : goal.invariant-loop-k
invariant-loop-k l = record {
  before : (j : ℕ) → j < l.k → in_form l.year_hours l.runs j ≡ true;
  at_first : l.k ≡ 0 → l.free ≡ 0;
  behind : 0 < l.k → l.free ≡ ends (run_at l.runs (l.k - 1)) + 1;
}
