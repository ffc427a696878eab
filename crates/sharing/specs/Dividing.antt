-- Each share divided by the whole: the whole cents, the remainders, and the cents left over.
use Rattle.std.specs.Prelude.{◌≡◌, ℕ, ◌+◌, ◌*◌, ◌%◌, ◌<◌, ◌≤◌, cond, List, [], ◌∷◌, length, sum, nat_lt, slice_index, refl}
use Rattle.std.proofs.Common.{ap, ◌∙◌, ⊎_elim, add-mul, mul-add, zero-mul, one-mul, mul-zero, div-add-mod', div-le_self, mod-lt, le_of_mul-le-mul_right, arith}
use Rattle.std.proofs.Math.Nat.{zero-mod}
use Rattle.std.proofs.lemmas.List.{length-map, get_or-map}
use Rattle.std.proofs.lemmas.List.Sums.{sum_by-cons}
use Rattle.std.proofs.lemmas.Bool.{cases_lt}
use Rattle.std.proofs.lemmas.Bool.Decides.{nat_tests}
use Rattle.sharing.specs.Split.{cents_of}
use Rattle.sharing.specs.Remainder.{whole_cents, remainder_of, remainders, left_over}
use Rattle.sharing.specs.Cut.{count_above}

module _ (c w : ℕ) (ms : List ℕ) where
  pub length-whole_cents : length (whole_cents c w ms) ≡ length ms
  length-whole_cents = length-map ms (cents_of c w)

  pub length-remainders : length (remainders c w ms) ≡ length ms
  length-remainders = length-map ms (remainder_of c w)

  pub whole_cents_at : (i : ℕ) → i < length ms → slice_index (whole_cents c w ms) i ≡ cents_of c w (slice_index ms i)
  whole_cents_at i h = get_or-map (cents_of c w) ms i 0 0 h

  pub remainder_at : (i : ℕ) → i < length ms → slice_index (remainders c w ms) i ≡ remainder_of c w (slice_index ms i)
  remainder_at i h = get_or-map (remainder_of c w) ms i 0 0 h

-- the whole cents are no more than the shares not yet divided
pub whole_cents_small : (c w : ℕ) (ms : List ℕ) → sum (whole_cents c w ms) ≤ c * sum ms
whole_cents_small c w [] = omega (arith, mul-zero c)
whole_cents_small c w (m ∷ ms) =
    let shares = ap (λ n. c * n) (sum_by-cons (λ x. x) m ms) ∙ mul-add c m (sum ms) in
    omega (arith, sum_by-cons (λ x. x) (cents_of c w m) (whole_cents c w ms), whole_cents_small c w ms, div-le_self (c * m) w)

-- the whole cents and the remainders are together all of the shares
shares_split : (c w : ℕ) (ms : List ℕ) → sum (whole_cents c w ms) * w + sum (remainders c w ms) ≡ c * sum ms
shares_split c w [] = omega (arith, zero-mul w, mul-zero c)
shares_split c w (m ∷ ms) =
    let cents = ap (λ n. n * w) (sum_by-cons (λ x. x) (cents_of c w m) (whole_cents c w ms)) ∙ add-mul (cents_of c w m) (sum (whole_cents c w ms)) w in
    let rests = sum_by-cons (λ x. x) (remainder_of c w m) (remainders c w ms) in
    let shares = ap (λ n. c * n) (sum_by-cons (λ x. x) m ms) ∙ mul-add c m (sum ms) in
    omega (arith, shares_split c w ms, div-add-mod' (c * m) w)

-- each row that has a remainder has less than a cent of it
remainders_few : (c w : ℕ) (ms : List ℕ) → 0 < w → sum (remainders c w ms) ≤ count_above (remainders c w ms) 0 * w
remainders_few c w [] pos = omega arith
remainders_few c w (m ∷ ms) pos =
    let r : ℕ = remainder_of c w m in
    let one : ℕ = cond (nat_lt 0 r) 1 0 in
    let rests = sum_by-cons (λ x. x) r (remainders c w ms) in
    let counts = ap (λ n. n * w) (sum_by-cons (λ x. cond (nat_lt 0 x) 1 0) r (remainders c w ms)) ∙ add-mul one (count_above (remainders c w ms) 0) w in
    let small : r < w = mod-lt (c * m) pos in
    let here : r ≤ one * w =
    ⊎_elim (λ some. let is : one * w ≡ w = ap (λ n. n * w) (let e : one ≡ 1 = grind (arith, nat_tests) in e) ∙ one-mul w in omega arith) (λ none. omega arith) (cases_lt 0 r) in
    omega (arith, remainders_few c w ms pos)

-- no remainder is above the whole, where a whole of 0 has nothing to share
remainder_small : (c w m : ℕ) → (w ≡ 0 → c ≡ 0) → remainder_of c w m ≤ w
remainder_small c w m some =
    ⊎_elim (λ pos. let small : remainder_of c w m < w = mod-lt (c * m) pos in omega arith)
    (λ z. let nil : c ≡ 0 = some (omega arith) in
    let none : remainder_of c w m ≡ 0 = ap (λ x. remainder_of x w m) nil ∙ ap (λ x. x % w) (zero-mul m) ∙ zero-mod w in
    omega arith)
    (cases_lt 0 w)

pub none_above : (c w : ℕ) (ms : List ℕ) → (w ≡ 0 → c ≡ 0) → count_above (remainders c w ms) w ≡ 0
none_above c w [] some = refl
none_above c w (m ∷ ms) some =
    let small = remainder_small c w m some in
    let here : ◌≡◌ {A = ℕ} (cond (nat_lt w (remainder_of c w m)) 1 0) 0 = grind (arith, nat_tests) in
    omega (arith, sum_by-cons (λ x. cond (nat_lt w x) 1 0) (remainder_of c w m) (remainders c w ms), none_above c w ms some)

module _ (c : ℕ) (ms : List ℕ) (pos : 0 < sum ms) where
  -- the whole cents do not pass the total
  pub whole_cents_within : sum (whole_cents c (sum ms) ms) ≤ c
  whole_cents_within = le_of_mul-le-mul_right (omega (arith, shares_split c (sum ms) ms)) pos

  left_times : left_over c (sum ms) ms * sum ms ≡ sum (remainders c (sum ms) ms)
  left_times =
      let parts : c ≡ sum (whole_cents c (sum ms) ms) + left_over c (sum ms) ms = omega (arith, whole_cents_within) in
      let times : c * sum ms ≡ sum (whole_cents c (sum ms) ms) * sum ms + left_over c (sum ms) ms * sum ms = ap (λ n. n * sum ms) parts ∙ add-mul (sum (whole_cents c (sum ms) ms)) (left_over c (sum ms) ms) (sum ms) in
      omega (arith, shares_split c (sum ms) ms)

  -- no more cents are left over than rows have a remainder
  pub left_few : left_over c (sum ms) ms ≤ count_above (remainders c (sum ms) ms) 0
  left_few = le_of_mul-le-mul_right (omega (arith, left_times, remainders_few c (sum ms) ms pos)) pos
