-- What ascending runs cover of a span is their parts of it, one after another.
use Rattle.std.proofs.Common.{◌≡◌, ℕ, zero, suc, ◌+◌, ◌-◌, ◌<◌, ◌≤◌, min, max, true, false, ltb, leb, List, [], ◌∷◌, ◌++◌, length, sum_by, filter, sym, refl, ap, ◌∙◌, ap₂, inl, inr, arith, length-append}
use Rattle.std.specs.List.{range_with_len, flat_map}
use Rattle.std.proofs.lemmas.List.FromFn.{length-range_with_len}
use Rattle.std.proofs.lemmas.List.Sums.{sum_by-cons}
use Rattle.std.proofs.lemmas.Bool.{and_parts, ltb-true, leb-true, or_cases, both_ways, cond_both, cases_lt}
use Rattle.std.proofs.lemmas.Bool.Decides.{nat_tests}
use Rattle.calendar.specs.declared.run.Run.{Run}
use Rattle.calendar.specs.Runs.{span, ends, covers, part, part_hours}
use Rattle.calendar.specs.Form.{run_at, apart, hours}
use Rattle.calendar.specs.Stress.{some_covers}
use Rattle.calendar.proofs.Keeping.{keeps_none, kept_either}
use Rattle.calendar.proofs.Spans.{span_none, span_some}

-- what a run covers of n hours from a on is its part of them
kept_part : (r : Run) (n a : ℕ) → filter (covers r) (range_with_len a n) ≡ part a (a + n) r
kept_part r zero a = sym (span_none (max a r.first) (min (a + zero) (ends r)) (omega arith))
kept_part r (suc n) a =
    let rest = filter (covers r) (range_with_len (a + 1) n) in
    let later = kept_part r n (a + 1) in
    let end : min (a + 1 + n) (ends r) ≡ min (a + suc n) (ends r) = omega arith in
    cond_both (covers r a) (a ∷ rest) rest (λ l. l ≡ part a (a + suc n) r)
    (λ here.
    let lasts = and_parts (leb r.first a) (ltb a (ends r)) here in
    let begun : max a r.first ≡ a = omega (arith, leb-true r.first a lasts.0) in
    let goes_on : max (a + 1) r.first ≡ a + 1 = omega arith in
    let within : a < min (a + suc n) (ends r) = omega (arith, ltb-true a (ends r) lasts.1) in
    ap (λ (l : List ℕ). a ∷ l) (later ∙ ap₂ span goes_on end)
    ∙ sym (ap (λ (x : ℕ). span x (min (a + suc n) (ends r))) begun ∙ span_some a (min (a + suc n) (ends r)) within))
    (λ not-here. later ∙ elim (cases_lt a r.first) [
      | inl before ↦ ap₂ span (omega arith) end
      | inr begun ↦
          (let over : ends r ≤ a = grind (arith, nat_tests) in
          span_none (max (a + 1) r.first) (min (a + 1 + n) (ends r)) (omega arith) ∙ sym (span_none (max a r.first) (min (a + suc n) (ends r)) (omega arith)))
    ])

-- the runs begin at `from` or later, and each after the end of the one before
abbrev From : ℕ → List Run → Type 0
From from [] = Unit {0}
From from (r ∷ rs) = (from ≤ r.first) × From (ends r) rs

-- runs that are apart are such
from_apart : (rs : List Run) (from : ℕ) → (0 < length rs → from ≤ (run_at rs 0).first) → ((k : ℕ) → suc k < length rs → ends (run_at rs k) < (run_at rs (suc k)).first) → From from rs
from_apart [] from first apart = tt
from_apart (r ∷ rs) from first apart =
    (first (omega arith), from_apart rs (ends r) (λ h. omega (arith, apart 0 (omega arith))) (λ k h. apart (suc k) (omega arith)))

-- no run covers an hour before the first
covered_from : (rs : List Run) (from h : ℕ) → From from rs → some_covers rs h ≡ true → from ≤ h
covered_from [] from h up covered = absurd (both_ways false refl covered)
covered_from (r ∷ rs) from h up covered =
    elim (or_cases (covers r h) (some_covers rs h) covered) [
      | inl this ↦ omega (arith, leb-true r.first h (and_parts (leb r.first h) (ltb h (ends r)) this).0, up.0)
      | inr later ↦ omega (arith, covered_from rs (ends r) h up.1 later, up.0)
    ]

-- what the runs cover of n hours from a on is their parts of them
kept_parts : (rs : List Run) (from n a : ℕ) → From from rs → filter (some_covers rs) (range_with_len a n) ≡ flat_map (part a (a + n)) rs
kept_parts [] from n a up = keeps_none (some_covers []) n a (λ h p. refl)
kept_parts (r ∷ rs) from n a up =
    kept_either (covers r) (some_covers rs) (ends r) n a
    (λ h this. ltb-true h (ends r) (and_parts (leb r.first h) (ltb h (ends r)) this).1)
    (λ h later. covered_from rs (ends r) h up.1 later)
    ∙ ap₂ (λ (xs ys : List ℕ). xs ++ ys) (kept_part r n a) (kept_parts rs (ends r) n a up.1)

-- a run that is apart begins after the end of the run before it
apart_next : (rs : List Run) (k : ℕ) → apart rs (suc k) ≡ true → ends (run_at rs k) < (run_at rs (suc k)).first
apart_next rs k is-apart = let before : suc k - 1 ≡ k = omega arith in grind (arith, nat_tests)

-- what the runs cover of a span is their parts of it
pub covered_parts : (rs : List Run) (from to : ℕ) → ((k : ℕ) → k < length rs → apart rs k ≡ true) → from ≤ to → filter (some_covers rs) (span from to) ≡ flat_map (part from to) rs
covered_parts rs from to each-apart forward =
    let whole : from + (to - from) ≡ to = omega arith in
    let next : (k : ℕ) → suc k < length rs → ends (run_at rs k) < (run_at rs (suc k)).first =
    λ k h. apart_next rs k (each-apart (suc k) h) in
    kept_parts rs 0 (to - from) from (from_apart rs 0 (λ h. omega arith) next) ∙ ap (λ (e : ℕ). flat_map (part from e) rs) whole

module _ (from to : ℕ) where
  pub length-parts : (rs : List Run) → length (flat_map (part from to) rs) ≡ sum_by (part_hours from to) rs
  length-parts [] = refl
  length-parts (r ∷ rs) =
      omega (
        arith,
        length-append (part from to r) (flat_map (part from to) rs),
        length-range_with_len (max from r.first) (part_hours from to r),
        length-parts rs,
        sum_by-cons (part_hours from to) r rs,
      )

  -- the parts have no more hours than the runs
  pub parts_few : (rs : List Run) → sum_by (part_hours from to) rs ≤ hours rs
  parts_few [] = omega arith
  parts_few (r ∷ rs) = omega (arith, parts_few rs, sum_by-cons (part_hours from to) r rs, sum_by-cons (λ r. r.len) r rs)
