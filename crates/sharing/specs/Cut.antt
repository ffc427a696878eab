-- Where the cents left over end: a remainder such that each row above it has a cent more, and of the rows at it the
-- first ones. Serves src/cut.rt.
use Rattle.std.specs.Prelude.{ℕ, ◌<◌, ◌≤◌, cond, ◌&&◌, ◌||◌, ltb, List, count_by, ◌==◌, nat_lt}

-- how many remainders are above t
abbrev pub count_above : List ℕ → ℕ → ℕ
count_above rs t = count_by (λ r. ltb t r) rs

-- t is the least number that no more remainders are above than cents are left
pub record Least (rs : List ℕ) (left t : ℕ) : Type 0 where
  pub enough : count_above rs t ≤ left
  pub least : (s : ℕ) → s < t → left < count_above rs s

-- the cent of a row: one above t, and at t one as long as there are ties to give
abbrev pub cent_at : ℕ → ℕ → ℕ → ℕ
cent_at t ties r = cond (nat_lt t r || (r == t && nat_lt 0 ties)) 1 0
