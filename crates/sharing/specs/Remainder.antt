-- The rule of the largest remainder: a row's weight is its MWh, each row has the whole cents of its share, and the cents
-- left over go one each to the rows with the largest remainders, among equals to the earlier row. So 100 over three rows
-- of 1 MWh is 34, 33, 33: the remainders are equal, and the one cent left over goes to the first row. Serves
-- src/remainder.rt.
use Rattle.std.specs.Prelude.{◌≡◌, ℕ, ◌+◌, ◌-◌, ◌*◌, ◌%◌, ◌<◌, ◌≤◌, Bool, true, cond, ◌&&◌, ◌||◌, List, map, length, sum_by, sum, count_by, ◌==◌, nat_lt, slice_index}
use Rattle.std.specs.List.{range_with_len}
use Rattle.sharing.specs.Rule.{RuleMeaning}
use Rattle.sharing.specs.Split.{cents_of}

-- the whole cents of each row's share
abbrev pub whole_cents : ℕ → ℕ → List ℕ → List ℕ
whole_cents c w ms = map (cents_of c w) ms

-- what the division of a share by the whole w leaves, in parts of which w are a cent
abbrev pub remainder_of : ℕ → ℕ → ℕ → ℕ
remainder_of c w m = (c * m) % w

-- the remainder of each row's share
abbrev pub remainders : ℕ → ℕ → List ℕ → List ℕ
remainders c w ms = map (remainder_of c w) ms

-- the cents that the whole cents of all rows leave over
abbrev pub left_over : ℕ → ℕ → List ℕ → ℕ
left_over c w ms = c - sum (whole_cents c w ms)

-- row j precedes row i if its remainder is larger, or equal and it stands earlier
abbrev pub precedes : List ℕ → ℕ → ℕ → Bool
precedes rs j i = nat_lt (slice_index rs i) (slice_index rs j) || (slice_index rs j == slice_index rs i && nat_lt j i)

-- how many rows precede row i
abbrev pub ahead : List ℕ → ℕ → ℕ
ahead rs i = count_by (λ j. precedes rs j i) (range_with_len 0 (length rs))

-- row i has one cent more exactly where fewer rows precede it than cents are left over
abbrev pub one_more : List ℕ → ℕ → ℕ → ℕ
one_more rs left i = cond (nat_lt (ahead rs i) left) 1 0

-- the charges cs, each with one cent more where its row has one
abbrev pub with_more : List ℕ → List ℕ → ℕ → List ℕ
with_more cs rs left = map (λ i. slice_index cs i + one_more rs left i) (range_with_len 0 (length cs))

-- each row's charge, where the rows weigh w together
abbrev pub by_remainder : ℕ → ℕ → List ℕ → List ℕ
by_remainder c w ms = with_more (whole_cents c w ms) (remainders c w ms) (left_over c w ms)

-- the rule: a row's weight is its MWh, and the charges are those by remainder, where the rows weigh what their MWh add up
-- to
abbrev pub remainder_meaning : RuleMeaning
remainder_meaning = record { weights = λ total ms. ms; charges = λ total ms. by_remainder total (sum ms) ms }

-- the cents that the charges cs have for row i past the whole cents of its share
abbrev pub extra : ℕ → List ℕ → List ℕ → ℕ → ℕ
extra c ms cs i = slice_index cs i - cents_of c (sum ms) (slice_index ms i)

-- Charges that are fair to rows of these MWh. Each row has the whole cents of its share; past these, exactly the cents
-- left over are given out, no row has two, a row with no remainder has none, and a row with one precedes a row with none.
pub record Fair (c : ℕ) (ms cs : List ℕ) : Type 0 where
  pub whole_first : (i : ℕ) → i < length ms → cents_of c (sum ms) (slice_index ms i) ≤ slice_index cs i
  pub all_given : sum_by (extra c ms cs) (range_with_len 0 (length ms)) ≡ left_over c (sum ms) ms
  pub at_most_one : (i : ℕ) → i < length ms → extra c ms cs i ≤ 1
  pub none_without : (i : ℕ) → i < length ms → slice_index (remainders c (sum ms) ms) i ≡ 0 → extra c ms cs i ≡ 0
  pub largest_first : (i j : ℕ) → i < length ms → j < length ms → extra c ms cs i ≡ 1 → extra c ms cs j ≡ 0 → precedes (remainders c (sum ms) ms) i j ≡ true
