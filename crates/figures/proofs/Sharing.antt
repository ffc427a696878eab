-- Totals and charges that the laws of sharing allow, and some that break one part of a law.
use Rattle.std.proofs.Common.{◌≡◌, ℕ, ◌+◌, ◌*◌, ◌<◌, ◌≤◌, List, [], ◌∷◌, replicate, refl, arith}
use Rattle.std.proofs.lemmas.List.{length-replicate}
use Rattle.std.proofs.lemmas.List.Folds.{sum_by-replicate}
use Rattle.std.proofs.lemmas.Bool.{false≢true}
use Rattle.sharing.specs.Rule.{Shareable, Near, Lawful}
use Rattle.sharing.specs.RunningLaws.{running_lawful}
use Rattle.sharing.specs.RemainderLaws.{remainder_lawful, remainder_fair}
use Rattle.sharing.specs.Remainder.{Fair}
use Rattle.figures.specs.Laws.{ones}

abbrev ones_and_none : List ℕ
ones_and_none = 1 ∷ 1 ∷ 1 ∷ 0 ∷ []

pub most_shareable : Shareable 30_000_000_000 (40_000_000 ∷ [])
most_shareable = record { cents = omega arith; rows = omega arith; mwh = omega arith }

pub rows_shareable : (n : ℕ) → n ≤ 1_024 → Shareable 0 (replicate n 0)
rows_shareable n few = record { cents = omega arith; rows = omega (arith, few, length-replicate {A = ℕ} n 0); mwh = omega (arith, sum_by-replicate (λ x. x) n 0) }

pub rows_too_many : (n : ℕ) → 1_024 < n → Shareable 0 (replicate n 0) → ⊥
rows_too_many n many ok = omega (arith, many, length-replicate {A = ℕ} n 0, ok.rows)

pub near_at : (total all weight charge : ℕ) → charge * all < total * weight + all → total * weight < charge * all + all → Near total all weight charge
near_at total all weight charge over under = record { not_over = over; not_under = under }

pub not_under : (total all weight charge : ℕ) → charge * all + all ≤ total * weight → Near total all weight charge → ⊥
not_under total all weight charge far ok = omega (arith, far, ok.not_under)

pub not_over : (total all weight charge : ℕ) → total * weight + all ≤ charge * all → Near total all weight charge → ⊥
not_over total all weight charge far ok = omega (arith, far, ok.not_over)

hundred : Shareable 100 ones
hundred = record { cents = omega arith; rows = omega arith; mwh = omega arith }

pub running_thirds : Lawful 100 ones ones (33 ∷ 33 ∷ 34 ∷ [])
running_thirds = running_lawful 100 ones hundred

pub remainder_thirds : Lawful 100 ones ones (34 ∷ 33 ∷ 33 ∷ [])
remainder_thirds = remainder_lawful 100 ones hundred

pub weight_too_many : Lawful 100 ones ones_and_none (33 ∷ 33 ∷ 34 ∷ []) → ⊥
weight_too_many ok = omega (arith, ok.weight_each)

pub charge_too_many : Lawful 100 ones ones (33 ∷ 33 ∷ 34 ∷ 0 ∷ []) → ⊥
charge_too_many ok = omega (arith, ok.charge_each)

pub weighs_too_much : Lawful 0 (1 ∷ []) (40_000_001 ∷ []) (0 ∷ []) → ⊥
weighs_too_much ok = omega (arith, ok.bounded)

pub cent_lost : Lawful 100 ones ones (33 ∷ 33 ∷ 33 ∷ []) → ⊥
cent_lost ok = let all : 99 ≡ 100 = ok.adds_up (omega arith) in omega (arith, all)

pub cent_away : Lawful 100 ones ones (32 ∷ 34 ∷ 34 ∷ []) → ⊥
cent_away ok = let first : Near 100 3 1 32 = ok.near (omega arith) 0 (omega arith) in omega (arith, first.not_under)

pub cent_of_nothing : Lawful 0 (0 ∷ []) (0 ∷ []) (1 ∷ []) → ⊥
cent_of_nothing ok = let first : 1 ≡ 0 = ok.nothing refl refl 0 (omega arith) in omega (arith, first)

abbrev one_and_two : List ℕ
one_and_two = 1 ∷ 2 ∷ []

pub larger_first : Fair 100 one_and_two (33 ∷ 67 ∷ [])
larger_first = remainder_fair 100 one_and_two (λ none. absurd (omega (arith, none)))

pub below_its_share : Fair 100 one_and_two (32 ∷ 67 ∷ []) → ⊥
below_its_share ok = let first : 33 ≤ 32 = ok.whole_first 0 (omega arith) in omega (arith, first)

pub not_given_out : Fair 100 one_and_two (33 ∷ 66 ∷ []) → ⊥
not_given_out ok = let all : 0 ≡ 1 = ok.all_given in omega (arith, all)

pub two_to_one_row : Fair 101 ones (35 ∷ 33 ∷ 33 ∷ []) → ⊥
two_to_one_row ok = let first : 2 ≤ 1 = ok.at_most_one 0 (omega arith) in omega (arith, first)

pub smaller_first : Fair 100 one_and_two (34 ∷ 66 ∷ []) → ⊥
smaller_first ok = let first = ok.largest_first 0 1 (omega arith) (omega arith) refl refl in false≢true first

pub later_first : Fair 100 ones (33 ∷ 34 ∷ 33 ∷ []) → ⊥
later_first ok = let first = ok.largest_first 1 0 (omega arith) (omega arith) refl refl in false≢true first
