-- Counts of remainders above a number and at it, the rows that precede a row, and what a cut gives out.
use Rattle.std.specs.Prelude.{◌≡◌, ℕ, zero, suc, ◌+◌, ◌-◌, ◌<◌, ◌≤◌, min, true, cond, List, [], ◌∷◌, length, take, sum_by, count_by, ◌==◌, nat_eq, nat_lt, slice_index, slice_index_or, refl}
use Rattle.std.proofs.Common.{ap, ⊎_elim, add-one, arith}
use Rattle.std.specs.List.{range_with_len}
use Rattle.std.proofs.lemmas.List.{take_all, take-take}
use Rattle.std.proofs.lemmas.List.Sums.{sum_by-cons, sum_by_more, sum_by-take-le}
use Rattle.std.proofs.lemmas.Bool.{cases_lt, cases_order}
use Rattle.std.proofs.lemmas.Bool.Decides.{nat_tests}
use Rattle.sharing.specs.Remainder.{precedes, ahead, one_more}
use Rattle.sharing.specs.Cut.{count_above, Least, cent_at}
use Rattle.sharing.specs.Steps.{sum_by-counting_more}

-- how many of the first i remainders are t
abbrev pub count_at : List ℕ → ℕ → ℕ → ℕ
count_at rs t i = count_by (λ r. nat_eq r t) (take i rs)

-- the higher the number, the fewer are above it
pub above_falls : (rs : List ℕ) (s t : ℕ) → s ≤ t → count_above rs t ≤ count_above rs s
above_falls [] s t h = omega arith
above_falls (r ∷ rs) s t h =
    let here : cond (nat_lt t r) 1 0 ≤ cond (nat_lt s r) 1 0 = grind (arith, nat_tests) in
    omega (arith, sum_by-cons (λ x. cond (nat_lt t x) 1 0) r rs, sum_by-cons (λ x. cond (nat_lt s x) 1 0) r rs, above_falls rs s t h)

-- what is above s is above the next number t, or is t
above_or_at : (rs : List ℕ) (s t : ℕ) → s + 1 ≡ t → count_above rs s ≡ count_above rs t + count_by (λ r. nat_eq r t) rs
above_or_at [] s t e = refl
above_or_at (r ∷ rs) s t e =
    let here : cond (nat_lt s r) 1 0 ≡ cond (nat_lt t r) 1 0 + cond (r == t) 1 0 = grind (arith, nat_tests) in
    omega (arith, sum_by-cons (λ x. cond (nat_lt s x) 1 0) r rs, sum_by-cons (λ x. cond (nat_lt t x) 1 0) r rs, sum_by-cons (λ x. cond (x == t) 1 0) r rs, above_or_at rs s t e)

-- among more of the first rows there are no fewer at t
at_rises : (rs : List ℕ) (t i j : ℕ) → i ≤ j → count_at rs t i ≤ count_at rs t j
at_rises rs t i j h = omega (arith, sum_by-take-le (λ r. cond (r == t) 1 0) (take j rs) i, ap (count_by (λ r. nat_eq r t)) (take-take i j rs h))

-- one row more, which is at t or not
pub at_more : (rs : List ℕ) (t i : ℕ) → i < length rs → count_at rs t (i + 1) ≡ count_at rs t i + cond (slice_index rs i == t) 1 0
at_more rs t i h = sum_by_more (λ r. cond (r == t) 1 0) rs i 0 h

-- of the first k rows, those with a larger remainder precede row i, and those before it with its own
ahead_upto : (rs : List ℕ) (i k : ℕ) → k ≤ length rs → count_by (λ j. precedes rs j i) (range_with_len 0 k) ≡ count_above (take k rs) (slice_index rs i) + count_at rs (slice_index rs i) (min i k)
ahead_upto rs i zero h = let none : min i 0 ≡ 0 = omega arith in rw none
ahead_upto rs i (suc k) h =
    let r : ℕ = slice_index_or rs i 0 in
    let inside : k < length rs = omega arith in
    let before = ahead_upto rs i k (omega arith) in
    let more = sum_by-counting_more (λ j. cond (precedes rs j i) 1 0) 0 k k (omega arith) in
    let above = sum_by_more (λ x. cond (nat_lt r x) 1 0) rs k 0 inside in
    let at = at_more rs r k inside in
    let all : count_by (λ j. precedes rs j i) (range_with_len 0 (k + 1)) ≡ count_above (take (k + 1) rs) r + count_at rs r (min i (k + 1)) =
    ⊎_elim
    (λ lt. let now = ap (count_at rs r) (let e : min i (k + 1) ≡ k + 1 = omega arith in e) in
    let was = ap (count_at rs r) (let e : min i k ≡ k = omega arith in e) in
    let here : cond (precedes rs k i) 1 0 ≡ cond (nat_lt r (slice_index rs k)) 1 0 + cond (slice_index rs k == r) 1 0 = grind (arith, nat_tests) in
    omega arith)
    (λ le. let same = ap (count_at rs r) (let e : min i (k + 1) ≡ min i k = omega arith in e) in
    let here : ◌≡◌ {A = ℕ} (cond (precedes rs k i) 1 0) (cond (nat_lt r (slice_index rs k)) 1 0) = grind (arith, nat_tests) in
    omega arith)
    (cases_lt k i) in
    rw add-one at all

module _ (rs : List ℕ) (i : ℕ) (inside : i < length rs) where
  -- the rows that precede row i: those with a larger remainder, and those before it with its own
  pub ahead_is : ahead rs i ≡ count_above rs (slice_index rs i) + count_at rs (slice_index rs i) i
  ahead_is =
      let all = ap (λ l. count_above l (slice_index rs i)) (take_all (length rs) rs (omega arith)) in
      let before = ap (count_at rs (slice_index rs i)) (let e : min i (length rs) ≡ i = omega arith in e) in
      omega (arith, ahead_upto rs i (length rs) (omega arith))

  -- a row above t is preceded by rows above t alone, and is one itself
  pub ahead_below : (t : ℕ) → t < slice_index rs i → ahead rs i < count_above rs t
  ahead_below t lt =
      let r : ℕ = slice_index_or rs i 0 in
      let own : ◌≡◌ {A = ℕ} (cond (r == r) 1 0) 1 = grind (arith, nat_tests) in
      let down = above_falls rs t (r - 1) (omega arith) in
      let split = above_or_at rs (r - 1) r (omega arith) in
      omega (arith, ahead_is, at_more rs r i inside, sum_by-take-le (λ x. cond (x == r) 1 0) rs (i + 1))

  -- a row that is not above t is preceded by every row that is
  pub above_ahead : (t : ℕ) → slice_index rs i ≤ t → count_above rs t ≤ ahead rs i
  above_ahead t le = omega (arith, ahead_is, above_falls rs (slice_index rs i) t le)

  -- the cut gives each row its cent more, or none, as the rule does
  pub cut_cent : (left t : ℕ) → Least rs left t → cent_at t (left - count_above rs t - count_at rs t i) (slice_index rs i) ≡ one_more rs left i
  cut_cent left t cut =
      let r : ℕ = slice_index_or rs i 0 in
      let enough = cut.enough in
      ⊎_elim
      (λ is. let above = ap (count_above rs) is in
      let at = ap (λ x. count_at rs x i) is in
      let here : ahead rs i ≡ count_above rs t + count_at rs t i = omega (arith, ahead_is) in
      grind (arith, nat_tests))
      (λ ne. ⊎_elim (λ lt. let few = cut.least r lt in let many = above_ahead r (omega arith) in grind (arith, nat_tests))
      (λ gt. let few = ahead_below t gt in grind (arith, nat_tests)) ne)
      (cases_order r t)

-- what the first k rows are given: one each above the cut, and at it one each until the ties are gone
given_upto : (rs : List ℕ) (left t k : ℕ) → Least rs left t → k ≤ length rs → sum_by (one_more rs left) (range_with_len 0 k) ≡ count_above (take k rs) t + min (left - count_above rs t) (count_at rs t k)
given_upto rs left t zero cut h = omega arith
given_upto rs left t (suc k) cut h =
    let inside : k < length rs = omega arith in
    let before = given_upto rs left t k cut (omega arith) in
    let more = sum_by-counting_more (one_more rs left) 0 k k (omega arith) in
    let above = sum_by_more (λ x. cond (nat_lt t x) 1 0) rs k 0 inside in
    let at = at_more rs t k inside in
    let here = cut_cent rs k inside left t cut in
    let all : sum_by (one_more rs left) (range_with_len 0 (k + 1)) ≡ count_above (take (k + 1) rs) t + min (left - count_above rs t) (count_at rs t (k + 1)) = grind (arith, nat_tests) in
    rw add-one at all

-- there is a cut, at or below a number that few enough are above
cut_exists : (rs : List ℕ) (left top : ℕ) → count_above rs top ≤ left → (t : ℕ) × Least rs left t
cut_exists rs left zero enough = (0, record { enough = enough; least = λ s lt. absurd (omega arith) })
cut_exists rs left (suc top) enough =
    ⊎_elim
    (λ many. (suc top, record { enough = enough; least = λ s lt. omega (arith, above_falls rs s top (omega arith)) }))
    (λ few. cut_exists rs left top few)
    (cases_lt left (count_above rs top))

-- exactly the cents left are given, where there are no more of them than rows with a remainder
pub all_given : (rs : List ℕ) (left top : ℕ) → count_above rs top ≡ 0 → left ≤ count_above rs 0 → sum_by (one_more rs left) (range_with_len 0 (length rs)) ≡ left
all_given rs left top none few =
    let found = cut_exists rs left top (omega arith) in
    given_all found.0 found.1
  where
    given_all : (t : ℕ) → Least rs left t → sum_by (one_more rs left) (range_with_len 0 (length rs)) ≡ left
    given_all t cut =
        let all = ap (λ l. count_above l t) (take_all (length rs) rs (omega arith)) in
        let ties = ap (count_by (λ r. nat_eq r t)) (take_all (length rs) rs (omega arith)) in
        let enough = cut.enough in
        let reach : left ≤ count_above rs t + count_by (λ r. nat_eq r t) rs =
        ⊎_elim (λ pos. omega (arith, cut.least (t - 1) (omega arith), above_or_at rs (t - 1) t (omega arith)))
        (λ z. let least = ap (count_above rs) (let e : t ≡ 0 = omega arith in e) in omega arith) (cases_lt 0 t) in
        omega (arith, given_upto rs left t (length rs) cut (omega arith))

-- of two rows the one that fewer precede precedes the other
pub fewer_precedes : (rs : List ℕ) (i j : ℕ) → i < length rs → j < length rs → ahead rs i < ahead rs j → precedes rs i j ≡ true
fewer_precedes rs i j h k lt =
    ⊎_elim
    (λ same. ⊎_elim (λ before. grind (arith, nat_tests))
    (λ after. absurd (omega (arith, ahead_is rs i h, ahead_is rs j k, at_rises rs (slice_index rs i) j i after, ap (λ r. count_above rs r + count_at rs r j) same)))
    (cases_lt i j))
    (⊎_elim (λ less. absurd (omega (arith, ahead_below rs j k (slice_index rs i) less, above_ahead rs i h (slice_index rs i) (omega arith))))
    (λ more. grind (arith, nat_tests)))
    (cases_order (slice_index rs i) (slice_index rs j))
