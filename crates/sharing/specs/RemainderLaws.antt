-- The rule of the largest remainder is lawful and fair.
use Rattle.std.specs.Prelude.{◌≡◌, ℕ, zero, suc, ◌+◌, ◌*◌, ◌/◌, ◌<◌, ◌≤◌, List, length, take, sum_by, sum, slice_index, slice_index_or, refl}
use Rattle.std.proofs.Common.{sym, ap, ◌∙◌, ⊎_elim, add-mul, zero-add, zero-mul, one-mul, div-add-mod', mod-lt, add-one, arith}
use Rattle.std.proofs.Math.Nat.{zero-div}
use Rattle.std.specs.List.{range_with_len}
use Rattle.std.proofs.lemmas.List.{take_all}
use Rattle.std.proofs.lemmas.List.FromFn.{length-map-range_with_len, get_or-map-range_with_len}
use Rattle.std.proofs.lemmas.List.Sums.{sum_by_more, sum-map}
use Rattle.std.proofs.lemmas.Bool.{cases_lt}
use Rattle.std.proofs.lemmas.Bool.Decides.{nat_tests}
use Rattle.sharing.specs.Rule.{Near, IsLawful}
use Rattle.sharing.specs.Split.{cents_of}
use Rattle.sharing.specs.Remainder.{whole_cents, remainder_of, remainders, left_over, ahead, one_more, with_more, by_remainder, remainder_meaning, extra, Fair}
use Rattle.sharing.specs.Cut.{count_above}
use Rattle.sharing.specs.Steps.{sum_by-counting_more, sum_by-counting_same}
use Rattle.sharing.specs.Dividing.{length-whole_cents, length-remainders, whole_cents_at, remainder_at, none_above, whole_cents_within, left_few}
use Rattle.sharing.specs.Cuts.{above_ahead, all_given, fewer_precedes}

module _ (cs rs : List ℕ) (left : ℕ) where
  pub length-with_more : length (with_more cs rs left) ≡ length cs
  length-with_more = length-map-range_with_len (λ i. slice_index cs i + one_more rs left i) 0 (length cs)

  pub with_more_at : (i : ℕ) → i < length cs → slice_index (with_more cs rs left) i ≡ slice_index cs i + one_more rs left i
  with_more_at i h = get_or-map-range_with_len (λ i. slice_index cs i + one_more rs left i) 0 (length cs) i i 0 h (zero-add i)

  with_more_upto : (k : ℕ) → k ≤ length cs → sum_by (λ i. slice_index cs i + one_more rs left i) (range_with_len 0 k) ≡ sum (take k cs) + sum_by (one_more rs left) (range_with_len 0 k)
  with_more_upto zero h = refl
  with_more_upto (suc k) h =
      let before = with_more_upto k (omega arith) in
      let both = sum_by-counting_more (λ i. slice_index cs i + one_more rs left i) 0 k k (omega arith) in
      let mores = sum_by-counting_more (one_more rs left) 0 k k (omega arith) in
      let charges = sum_by_more (λ x. x) cs k 0 (omega arith) in
      let all : sum_by (λ i. slice_index cs i + one_more rs left i) (range_with_len 0 (k + 1)) ≡ sum (take (k + 1) cs) + sum_by (one_more rs left) (range_with_len 0 (k + 1)) = omega arith in
      rw add-one at all

  -- the charges go up by what is given
  sum_with_more : sum (with_more cs rs left) ≡ sum cs + sum_by (one_more rs left) (range_with_len 0 (length cs))
  sum_with_more =
      sum-map (λ i. slice_index cs i + one_more rs left i) (range_with_len 0 (length cs)) ∙ with_more_upto (length cs) (omega arith)
      ∙ ap (λ l. sum l + sum_by (one_more rs left) (range_with_len 0 (length cs))) (take_all (length cs) cs (omega arith))

pub length-by_remainder : (c w : ℕ) (ms : List ℕ) → length (by_remainder c w ms) ≡ length ms
length-by_remainder c w ms = length-with_more (whole_cents c w ms) (remainders c w ms) (left_over c w ms) ∙ length-whole_cents c w ms

-- The charges of rows of the MWh ms, where there is nothing to share if there are no MWh.
module _ (c : ℕ) (ms : List ℕ) (some : sum ms ≡ 0 → c ≡ 0) where
  abbrev rests : List ℕ
  rests = remainders c (sum ms) ms

  abbrev left : ℕ
  left = left_over c (sum ms) ms

  -- no more cents are left over than rows have a remainder
  few : left ≤ count_above rests 0
  few = ⊎_elim (λ pos. left_few c ms pos) (λ z. omega (arith, some (omega arith))) (cases_lt 0 (sum ms))

  -- exactly the cents left over are given
  mores_all : sum_by (one_more rests left) (range_with_len 0 (length ms)) ≡ left
  mores_all = ap (λ n. sum_by (one_more rests left) (range_with_len 0 n)) (sym (length-remainders c (sum ms) ms)) ∙ all_given rests left (sum ms) (none_above c (sum ms) ms some) few

  module _ (i : ℕ) (inside : i < length ms) where
    pub charge_at : slice_index_or (by_remainder c (sum ms) ms) i 0 ≡ cents_of c (sum ms) (slice_index ms i) + one_more rests left i
    charge_at =
        let h : i < length (whole_cents c (sum ms) ms) = omega (arith, length-whole_cents c (sum ms) ms) in
        with_more_at (whole_cents c (sum ms) ms) rests left i h ∙ ap (λ n. n + one_more rests left i) (whole_cents_at c (sum ms) ms i inside)

    -- a row with no remainder has no cent more
    none_more : slice_index_or rests i 0 ≡ 0 → one_more rests left i ≡ 0
    none_more nil =
        let h : i < length rests = omega (arith, length-remainders c (sum ms) ms) in
        let many = above_ahead rests i h 0 (omega arith) in
        let enough = few in
        grind (arith, nat_tests)

    -- of nothing each row has nothing
    nothing : c ≡ 0 → slice_index (by_remainder c (sum ms) ms) i ≡ 0
    nothing nil =
        let cents : cents_of c (sum ms) (slice_index ms i) ≡ 0 = ap (λ x. cents_of x (sum ms) (slice_index ms i)) nil ∙ ap (λ x. x / sum ms) (zero-mul (slice_index ms i)) ∙ zero-div (sum ms) in
        let none : left ≡ 0 = omega arith in
        let no : one_more rests left i ≡ 0 = grind (arith, nat_tests) in
        omega (arith, charge_at)

    extra_is : extra c ms (by_remainder c (sum ms) ms) i ≡ one_more rests left i
    extra_is = omega (arith, charge_at)

    near : 0 < sum ms → Near c (sum ms) (slice_index ms i) (slice_index (by_remainder c (sum ms) ms) i)
    near pos =
        let w : ℕ = sum ms in
        let m : ℕ = slice_index_or ms i 0 in
        let q : ℕ = cents_of c w m in
        let r : ℕ = remainder_of c w m in
        let one : ℕ = one_more rests left i in
        let is : slice_index_or (by_remainder c w ms) i 0 * w ≡ q * w + one * w = ap (λ n. n * w) charge_at ∙ add-mul q one w in
        let whole : q * w + r ≡ c * m = div-add-mod' (c * m) w in
        let small : r < w = mod-lt (c * m) pos in
        ⊎_elim
        (λ more. let yes : one * w ≡ w = ap (λ n. n * w) (let e : one ≡ 1 = grind (arith, nat_tests) in e) ∙ one-mul w in
        let has : 0 < r = ⊎_elim (λ y. y) (λ z. absurd (omega (arith, none_more (remainder_at c w ms i inside ∙ (let e : r ≡ 0 = omega arith in e))))) (cases_lt 0 r) in
        record { not_over = omega arith; not_under = omega arith })
        (λ none. let no : one * w ≡ 0 = ap (λ n. n * w) (let e : one ≡ 0 = omega arith in e) ∙ zero-mul w in
        record { not_over = omega arith; not_under = omega arith })
        (cases_lt 0 one)

  adds_up : 0 < sum ms → sum (by_remainder c (sum ms) ms) ≡ c
  adds_up pos =
      let mores = ap (λ n. sum_by (one_more rests left) (range_with_len 0 n)) (length-whole_cents c (sum ms) ms) in
      omega (arith, sum_with_more (whole_cents c (sum ms) ms) rests left, mores_all, whole_cents_within c ms pos)

  pub remainder_fair : Fair c ms (by_remainder c (sum ms) ms)
  remainder_fair = record {
    whole_first = λ i h. omega (arith, charge_at i h);
    all_given = sum_by-counting_same (extra c ms (by_remainder c (sum ms) ms)) (one_more rests left) (length ms) extra_is ∙ mores_all;
    at_most_one = λ i h. let is = extra_is i h in grind (arith, nat_tests);
    none_without = λ i h nil. extra_is i h ∙ none_more i h nil;
    largest_first = λ i j h k one none.
        let long = length-remainders c (sum ms) ms in
        let yes = extra_is i h in
        let no = extra_is j k in
        let fewer : ahead rests i < ahead rests j = grind (arith, nat_tests) in
        fewer_precedes rests i j (omega arith) (omega arith) fewer;
  }

pub remainder_lawful : IsLawful remainder_meaning
remainder_lawful total ms ok = record {
  weight_each = refl;
  charge_each = length-by_remainder total (sum ms) ms;
  bounded = ok.mwh;
  adds_up = λ pos. adds_up total ms (λ z. absurd (omega arith)) pos;
  near = λ pos i h. near total ms (λ z. absurd (omega arith)) i h pos;
  nothing = λ none nil i h. nothing total ms (λ _. nil) i h nil;
}
