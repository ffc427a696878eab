-- What a test keeps of numbers that count up: in order, and none twice.
use Rattle.std.proofs.Common.{◌≡◌, ℕ, zero, suc, ◌+◌, ◌<◌, ◌≤◌, Bool, true, false, ◌||◌, List, [], ◌∷◌, ◌++◌, filter, refl, ap, ◌∙◌, inl, inr, arith}
use Rattle.std.specs.List.{range_with_len, All, AllPairs, Contains}
use Rattle.std.proofs.lemmas.List.Elements.{All-contains, All-filter, filter_passes, Contains-append_right}
use Rattle.std.proofs.lemmas.List.FromFn.{length-range_with_len, get_or-range_with_len}
use Rattle.std.proofs.lemmas.List.Kept.{AllPairs-filter}
use Rattle.std.proofs.lemmas.Bool.{cases_Bool, cases_eq, cond-false, cond_both, both_ways}

-- each number is above those before it
abbrev pub Ascending : List ℕ → Type 0
Ascending = AllPairs (λ x y. x < y)

-- the numbers counted lie in their span
abbrev Counted : ℕ → ℕ → ℕ → Type 0
Counted a n h = (a ≤ h) × (h < a + n)

counting_spans : (n a : ℕ) → All (Counted a n) (range_with_len a n)
counting_spans n a k d there =
    let within : k < n = omega (arith, there, length-range_with_len a n) in
    let is = get_or-range_with_len a n k d within in
    (omega (arith, is), omega (arith, is, within))

-- where none passes, none is kept
pub keeps_none : (P : ℕ → Bool) (n a : ℕ) → ((h : ℕ) → a ≤ h → P h ≡ false) → filter P (range_with_len a n) ≡ []
keeps_none P zero a fails = refl
keeps_none P (suc n) a fails =
    let rest = filter P (range_with_len (a + 1) n) in
    cond-false (P a) (a ∷ rest) rest (fails a (omega arith)) ∙ keeps_none P n (a + 1) (λ h p. fails h (omega arith))

module _ (P : ℕ → Bool) where
  kept_spans : (n a : ℕ) → All (Counted a n) (filter P (range_with_len a n))
  kept_spans n a = All-filter P (Counted a n) (range_with_len a n) (counting_spans n a)

  -- a number that is kept was counted, and passes
  pub kept_only : (n a h : ℕ) → Contains (filter P (range_with_len a n)) h → (a ≤ h) × (h < a + n) × (P h ≡ true)
  kept_only n a h has =
      let kept = filter P (range_with_len a n) in
      let spans = All-contains (Counted a n) kept h (kept_spans n a) has in
      (spans.0, spans.1, All-contains (λ x. P x ≡ true) kept h (filter_passes P (range_with_len a n)) has)

  -- a number that was counted and passes is kept
  pub kept_every : (n a h : ℕ) → a ≤ h → h < a + n → P h ≡ true → Contains (filter P (range_with_len a n)) h
  kept_every zero a h p q passes = absurd (omega arith)
  kept_every (suc n) a h p q passes =
      let rest = filter P (range_with_len (a + 1) n) in
      let later : (a ≡ h → ⊥) → Contains rest h = λ other. kept_every n (a + 1) h (omega arith) (omega arith) passes in
      cond_both (P a) (a ∷ rest) rest (λ l. Contains l h)
      (λ here. elim (cases_eq a h) [ inl e ↦ (0, omega arith, e) | inr other ↦ Contains-append_right (a ∷ []) rest h (later other) ])
      (λ not-here. later (λ e. both_ways (P a) not-here (ap P e ∙ passes)))

  -- what is kept ascends, since what is counted does
  pub kept_ascending : (n a : ℕ) → Ascending (filter P (range_with_len a n))
  kept_ascending n a =
      AllPairs-filter (λ x y. x < y) P (range_with_len a n) (λ i j d before there.
      let within : j < n = omega (arith, there, length-range_with_len a n) in
      omega (arith, before, get_or-range_with_len a n i d (omega (arith, before, within)), get_or-range_with_len a n j d within))

-- where one test passes only numbers below a bound and another only numbers from it on, what passes either is what passes the
-- one and then what passes the other
pub kept_either : (P Q : ℕ → Bool) (bound n a : ℕ) → ((h : ℕ) → P h ≡ true → h < bound) → ((h : ℕ) → Q h ≡ true → bound ≤ h) → filter (λ h. P h || Q h) (range_with_len a n) ≡ filter P (range_with_len a n) ++ filter Q (range_with_len a n)
kept_either P Q bound zero a below above = refl
kept_either P Q bound (suc n) a below above =
    let rest = kept_either P Q bound n (a + 1) below above in
    elim (cases_Bool (P a)) [
      | inl one ↦
          (let not-other : Q a ≡ false = elim (cases_Bool (Q a)) [ inl other ↦ absurd (omega (arith, below a one, above a other)) | inr e ↦ e ] in
          simp (one, not-other) (ap (λ (l : List ℕ). a ∷ l) rest))
      | inr not-one ↦
          elim (cases_Bool (Q a)) [
            | inl other ↦
                (let no_more : filter P (range_with_len (a + 1) n) ≡ [] = keeps_none P n (a + 1) (λ h p. elim (cases_Bool (P h)) [ inl one ↦ absurd (omega (arith, below h one, above a other)) | inr e ↦ e ]) in
                let others = rest ∙ ap (λ (l : List ℕ). l ++ filter Q (range_with_len (a + 1) n)) no_more in
                simp (not-one, other, no_more) (ap (λ (l : List ℕ). a ∷ l) others))
            | inr not-other ↦ simp (not-one, not-other) rest
          ]
    ]
