-- Sums of what rises step by step.
use Rattle.std.specs.Prelude.{◌≡◌, ℕ, zero, suc, ◌+◌, ◌-◌, ◌<◌, ◌≤◌, sum_by, refl}
use Rattle.std.proofs.Common.{add-one, arith}
use Rattle.std.specs.List.{range_with_len}
use Rattle.std.proofs.lemmas.List.{map-id}
use Rattle.std.proofs.lemmas.List.FromFn.{sum_by-map-range_with_len_more}

-- one number more
pub sum_by-counting_more : (g : ℕ → ℕ) (a n j : ℕ) → a + n ≡ j → sum_by g (range_with_len a (n + 1)) ≡ sum_by g (range_with_len a n) + g j
sum_by-counting_more g a n j at = rw (map-id (range_with_len a (n + 1)), map-id (range_with_len a n)) at (sum_by-map-range_with_len_more g (λ x. x) a n j at)

-- the steps of what rises add up to the rise
pub steps_add_up : (g : ℕ → ℕ) → ((i : ℕ) → g i ≤ g (i + 1)) → (n : ℕ) → g 0 + sum_by (λ i. g (i + 1) - g i) (range_with_len 0 n) ≡ g n
steps_add_up g up zero = omega arith
steps_add_up g up (suc n) =
    let before = steps_add_up g up n in
    let more = sum_by-counting_more (λ i. g (i + 1) - g i) 0 n n (omega arith) in
    let here = up n in
    let all : g 0 + sum_by (λ i. g (i + 1) - g i) (range_with_len 0 (n + 1)) ≡ g (n + 1) = omega arith in
    rw add-one at all

-- what is the same at each number below n has the same sum
pub sum_by-counting_same : (f g : ℕ → ℕ) (n : ℕ) → ((i : ℕ) → i < n → f i ≡ g i) → sum_by f (range_with_len 0 n) ≡ sum_by g (range_with_len 0 n)
sum_by-counting_same f g zero same = refl
sum_by-counting_same f g (suc n) same =
    let before = sum_by-counting_same f g n (λ i h. same i (omega arith)) in
    let fs = sum_by-counting_more f 0 n n (omega arith) in
    let gs = sum_by-counting_more g 0 n n (omega arith) in
    let here = same n (omega arith) in
    let all : sum_by f (range_with_len 0 (n + 1)) ≡ sum_by g (range_with_len 0 (n + 1)) = omega arith in
    rw add-one at all
