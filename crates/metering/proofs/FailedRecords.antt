-- Which records are of failed hours, and what the others are credited.
use Rattle.std.proofs.Common.{◌≡◌, ℕ, zero, suc, ◌+◌, ◌<◌, ◌≤◌, Bool, false, not, List, [], ◌∷◌, ◌++◌, length, take, set, map, filter, replicate, refl, sym, ap, ◌∙◌, inl, inr, append_assoc, None, arith}
use Rattle.std.specs.List.{zip}
use Rattle.std.proofs.lemmas.List.{take_more_set, append-nil}
use Rattle.std.proofs.lemmas.List.Sums.{sum_by-cons}
use Rattle.std.proofs.lemmas.Bool.{cases_Bool}
use Rattle.metering.specs.Testing.{failed_in}
use Rattle.metering.specs.Measuring.{credited_energy, unfailed_energy}

-- without a test no record is marked
pub none_marked : (hours : List ℕ) (n : ℕ) → length hours ≤ n → take (length hours) (replicate n false) ≡ map (failed_in None) hours
none_marked [] n few = refl
none_marked (h ∷ hours) zero few = absurd (omega arith)
none_marked (h ∷ hours) (suc n) few = ap (λ (l : List Bool). false ∷ l) (none_marked hours n (omega arith))

module _ (fails : ℕ → Bool) (hours to_come : List ℕ) (n : ℕ) (failed : List Bool) (marks : take n failed ++ map fails to_come ≡ map fails hours) where
  -- the record of the next hour is marked
  pub next_marked : (h : ℕ) (left : List ℕ) → n < length failed → to_come ≡ h ∷ left → take (n + 1) (set failed n (fails h)) ++ map fails left ≡ map fails hours
  next_marked h left inside gives = rw (take_more_set failed n (fails h) inside, append_assoc) (rw gives at marks)

  -- the record of each hour is marked
  pub all_marked : n + length to_come ≡ length hours → to_come ≡ [] → take (length hours) failed ≡ map fails hours
  all_marked counted none =
      let all : n ≡ length hours = omega (arith, ap length none) in
      rw (← all) (sym (append-nil (take n failed)) ∙ rw none at marks)

-- what the records that are not marked are credited is what the hours that did not fail are
pub unfailed_is_credited : {H : Type 0} (credit : H → ℕ → ℕ) (k : ℕ) (fails : ℕ → Bool) (hours : List ℕ) (records : List H) (failed : List Bool) → length records ≡ length hours → take (length hours) failed ≡ map fails hours → unfailed_energy credit k failed records ≡ credited_energy k fails hours (map credit records)
unfailed_is_credited credit k fails [] [] failed one_each marks = refl
unfailed_is_credited credit k fails [] (r ∷ records) failed one_each marks = absurd (omega arith)
unfailed_is_credited credit k fails (h ∷ hours) [] failed one_each marks = absurd (omega arith)
unfailed_is_credited credit k fails (h ∷ hours) (r ∷ records) [] one_each marks = absurd (cc)
unfailed_is_credited credit k fails (h ∷ hours) (r ∷ records) (f ∷ failed) one_each marks =
    let own : f ≡ fails h = cc in
    let rest = unfailed_is_credited credit k fails hours records failed (omega arith) (cc) in
    rw own (elim (cases_Bool (fails h)) [
      | inl fell ↦ rw fell rest
      | inr passed ↦ rw passed (omega (arith, rest, sum_by-cons (λ p. credit p.0 k) (r, f) (filter (λ p. not p.1) (zip records failed)), sum_by-cons (λ p. p.1 k) (h, credit r) (filter (λ p. not (fails p.0)) (zip hours (map credit records)))))
    ])
