-- Sums over the numbers below n, and over the front of a list.
use Rattle.std.proofs.Common.{◌≡◌, ℕ, zero, suc, ◌+◌, ◌*◌, ◌<◌, ◌≤◌, List, [], ◌∷◌, map, length, get_or, take, sum_by, sym, refl, ap, ◌∙◌, mul-zero, mul-add, add-one, arith}
use Rattle.std.specs.List.{range_with_len}
use Rattle.std.proofs.lemmas.List.{take_all}
use Rattle.std.proofs.lemmas.List.Sums.{sum_by-cons, sum_by_more}
use Rattle.sharing.specs.Steps.{sum_by-counting_more}

-- a sum from 1 on is one from 0 on of what comes one later
pub sum_by-counting_shift : (g : ℕ → ℕ) (n : ℕ) → sum_by g (range_with_len 1 n) ≡ sum_by (λ i. g (i + 1)) (range_with_len 0 n)
sum_by-counting_shift g zero = refl
sum_by-counting_shift g (suc n) =
    let before = sum_by-counting_shift g n in
    let later = sum_by-counting_more g 1 n (n + 1) (omega arith) in
    let here = sum_by-counting_more (λ i. g (i + 1)) 0 n n (omega arith) in
    let all : sum_by g (range_with_len 1 (n + 1)) ≡ sum_by (λ i. g (i + 1)) (range_with_len 0 (n + 1)) = omega arith in
    rw add-one at all

-- a sum over the first n elements is one over their places
pub sum_by-front : {X : Type 0} (g : X → ℕ) (xs : List X) (n : ℕ) (d : X) → n ≤ length xs → sum_by g (take n xs) ≡ sum_by (λ i. g (get_or xs i d)) (range_with_len 0 n)
sum_by-front g xs zero d le = refl
sum_by-front g xs (suc n) d le =
    let before = sum_by-front g xs n d (omega arith) in
    let front = sum_by_more g xs n d (omega arith) in
    let places = sum_by-counting_more (λ i. g (get_or xs i d)) 0 n n (omega arith) in
    let all : sum_by g (take (n + 1) xs) ≡ sum_by (λ i. g (get_or xs i d)) (range_with_len 0 (n + 1)) = omega arith in
    rw add-one at all

-- and over all of them, which are n
pub sum_by-places : {X : Type 0} (g : X → ℕ) (xs : List X) (n : ℕ) (d : X) → length xs ≡ n → sum_by g xs ≡ sum_by (λ i. g (get_or xs i d)) (range_with_len 0 n)
sum_by-places g xs n d all = ap (sum_by g) (sym (take_all n xs (omega arith))) ∙ sum_by-front g xs n d (omega arith)

-- where p times each addend is at most q times another's and r more, so are the sums, with r more for each
pub sum_by-counting_scaled : (g h : ℕ → ℕ) (p q r n : ℕ) → ((i : ℕ) → i < n → p * g i ≤ q * h i + r) → p * sum_by g (range_with_len 0 n) ≤ q * sum_by h (range_with_len 0 n) + r * n
sum_by-counting_scaled g h p q r zero le = omega (arith, mul-zero p)
sum_by-counting_scaled g h p q r (suc n) le =
    let before = sum_by-counting_scaled g h p q r n (λ i l. le i (omega arith)) in
    let here = le n (omega arith) in
    let gs : p * sum_by g (range_with_len 0 (n + 1)) ≡ p * sum_by g (range_with_len 0 n) + p * g n = ap (λ s. p * s) (sum_by-counting_more g 0 n n (omega arith)) ∙ mul-add p (sum_by g (range_with_len 0 n)) (g n) in
    let hs : q * sum_by h (range_with_len 0 (n + 1)) ≡ q * sum_by h (range_with_len 0 n) + q * h n = ap (λ s. q * s) (sum_by-counting_more h 0 n n (omega arith)) ∙ mul-add q (sum_by h (range_with_len 0 n)) (h n) in
    let all : p * sum_by g (range_with_len 0 (n + 1)) ≤ q * sum_by h (range_with_len 0 (n + 1)) + r * (n + 1) = omega (arith, mul-add r n 1) in
    rw add-one at all

-- where each addend is at most m, the sum is at most n of them
pub sum_by-counting_le : (g : ℕ → ℕ) (m n : ℕ) → ((i : ℕ) → i < n → g i ≤ m) → sum_by g (range_with_len 0 n) ≤ m * n
sum_by-counting_le g m n le =
    let all = sum_by-counting_scaled g (λ i. 0) 1 0 m n (λ i l. omega (arith, le i l)) in
    omega arith

sum_by-zero : {X : Type 0} (xs : List X) → sum_by (λ x. 0) xs ≡ 0
sum_by-zero [] = refl
sum_by-zero (x ∷ xs) = omega (arith, sum_by-zero xs, sum_by-cons (λ x. 0) x xs)

sum_by-add : {X : Type 0} (g h : X → ℕ) (xs : List X) → sum_by (λ x. g x + h x) xs ≡ sum_by g xs + sum_by h xs
sum_by-add g h [] = refl
sum_by-add g h (x ∷ xs) = omega (arith, sum_by-add g h xs, sum_by-cons g x xs, sum_by-cons h x xs, sum_by-cons (λ x. g x + h x) x xs)

-- a sum over what a list is mapped to
pub sum_by-map : {X Y : Type 0} (g : Y → ℕ) (f : X → Y) (xs : List X) → sum_by g (map f xs) ≡ sum_by (λ x. g (f x)) xs
sum_by-map g f [] = refl
sum_by-map g f (x ∷ xs) = omega (arith, sum_by-map g f xs, sum_by-cons g (f x) (map f xs), sum_by-cons (λ x. g (f x)) x xs)

-- by rows or by columns, a table adds up to the same
pub sum_by-exchange : {X Y : Type 0} (g : X → Y → ℕ) (xs : List X) (ys : List Y) → sum_by (λ x. sum_by (g x) ys) xs ≡ sum_by (λ y. sum_by (λ x. g x y) xs) ys
sum_by-exchange g [] ys = sym (sum_by-zero ys)
sum_by-exchange g (x ∷ xs) ys =
    let here = sum_by-cons (λ x. sum_by (g x) ys) x xs in
    let rest = sum_by-exchange g xs ys in
    let both = sum_by-add (g x) (λ y. sum_by (λ x. g x y) xs) ys in
    let each : sum_by (λ y. sum_by (λ x. g x y) (x ∷ xs)) ys ≡ sum_by (λ y. g x y + sum_by (λ x. g x y) xs) ys = simp sum_by-cons in
    omega arith
