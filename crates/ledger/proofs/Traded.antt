-- What a book keeps when kW are awarded and ceded.
use Rattle.std.proofs.Common.{◌≡◌, ℕ, ◌+◌, ◌-◌, ◌<◌, ◌≤◌, ◌≢◌, List, length, get_or, set, replicate, Ok, sum, sym, ◌∙◌, subst, ⊎_elim, arith}
use Rattle.std.proofs.lemmas.List.{get_or-set_same, get_or-set_other, length-set, length_push}
use Rattle.std.proofs.lemmas.List.Sums.{sum_by-set, sum_by_push}
use Rattle.std.proofs.lemmas.Bool.{cases_eq}
use Rattle.std.proofs.lemmas.Bool.Decides.{nat_tests}
use Rattle.ledger.specs.declared.state.Book.{Book}
use Rattle.ledger.specs.declared.state.Award.{Award}
use Rattle.ledger.specs.Form.{no_award, facility_at, award_at, held_under, held_in_all, Limited, Wide, Within, Whole, Priced}
use Rattle.ledger.specs.Judged.{judged}
use Rattle.ledger.specs.Awarding.{award_rows, new_award, awarded}
use Rattle.ledger.specs.Ceding.{cede_rows, shifted, with_held, ceded}
use Rattle.ledger.proofs.Places.{each_set, each_push, same_at}

-- what an accepted award tells
pub record Awardable (b : Book) (f kw price : ℕ) : Type 0 where
  pub from_one : 0 < f
  pub given : f ≤ length b.register.items
  pub room : length b.trade.items < 32
  pub least : 1_000 ≤ kw
  pub most : kw ≤ 1_000_000
  pub cheapest : 1 ≤ price
  pub dearest : price ≤ 100_000
  pub firm : held_in_all b.trade (f - 1) + kw ≤ (facility_at b.register (f - 1)).firm

pub awardable : (b : Book) (f kw price n m : ℕ) → judged (award_rows b f kw price) n ≡ Ok m → Awardable b f kw price
awardable b f kw price n m accepted = record {
  from_one = grind (arith, nat_tests);
  given = grind (arith, nat_tests);
  room = grind (arith, nat_tests);
  least = grind (arith, nat_tests);
  most = grind (arith, nat_tests);
  cheapest = grind (arith, nat_tests);
  dearest = grind (arith, nat_tests);
  firm = grind (arith, nat_tests);
}

-- what an accepted cession tells
pub record Cedable (b : Book) (a giver taker kw : ℕ) : Type 0 where
  pub giver_from : 0 < giver
  pub giver_to : giver ≤ length b.register.items
  pub taker_from : 0 < taker
  pub taker_to : taker ≤ length b.register.items
  pub award_from : 0 < a
  pub award_to : a ≤ length b.trade.items
  pub apart : giver ≡ taker → ⊥
  pub holds : kw ≤ held_under (giver - 1) (award_at b.trade (a - 1))
  pub firm : held_in_all b.trade (taker - 1) + kw ≤ (facility_at b.register (taker - 1)).firm

pub cedable : (b : Book) (a giver taker kw : ℕ) → judged {A = Unit {0}} (cede_rows b a giver taker kw) tt ≡ Ok tt → Cedable b a giver taker kw
cedable b a giver taker kw accepted = record {
  giver_from = grind (arith, nat_tests);
  giver_to = grind (arith, nat_tests);
  taker_from = grind (arith, nat_tests);
  taker_to = grind (arith, nat_tests);
  award_from = grind (arith, nat_tests);
  award_to = grind (arith, nat_tests);
  apart = grind (arith, nat_tests);
  holds = grind (arith, nat_tests);
  firm = grind (arith, nat_tests);
}

module _ (b : Book) (f kw price : ℕ) (ok : Awardable b f kw price) where
  -- a fact of each award given out, where it holds of the new one
  each_awarded : (P : Award → Type 0) → P (new_award f kw price) → ((a : ℕ) → a < length b.trade.items → P (award_at b.trade a)) → (a : ℕ) → a < length (awarded b f kw price).trade.items → P (award_at (awarded b f kw price).trade a)
  each_awarded P new old =
      let more = length_push b.trade.items (new_award f kw price) in
      each_push (λ a x. a < length (awarded b f kw price).trade.items → P x) b.trade.items (new_award f kw price) no_award (λ _. new) (λ a other lt. old a (omega (arith, other, lt, more)))

  pub awarded_wide : Wide b.trade → Wide (awarded b f kw price).trade
  awarded_wide kept = each_awarded (λ x. length x.held ≡ 64) (length-set (replicate 64 0) (f - 1) kw) kept

  pub awarded_priced : Priced b.trade → Priced (awarded b f kw price).trade
  awarded_priced kept = each_awarded Limited (ok.least, ok.most, ok.cheapest, ok.dearest) kept

  pub awarded_whole : length b.register.items ≤ 64 → Whole b.trade → Whole (awarded b f kw price).trade
  awarded_whole few kept =
      let all = sum_by-set (λ x. x) (replicate 64 0) (f - 1) kw 0 (omega (arith, ok.from_one, ok.given)) in
      each_awarded (λ x. sum x.held ≡ x.kw) (omega (arith, all, same_at {A = ℕ} 64 (f - 1) 0)) kept

  pub awarded_within : length b.register.items ≤ 64 → Within b → Within (awarded b f kw price)
  awarded_within few kept j =
      let more = sum_by_push (held_under j) b.trade.items (new_award f kw price) in
      let most : held_in_all b.trade j + get_or (set (replicate 64 0) (f - 1) kw) j 0 ≤ (facility_at b.register j).firm =
      each_set (λ k v. held_in_all b.trade k + v ≤ (facility_at b.register k).firm) (replicate 64 0) (f - 1) kw 0 (omega (arith, ok.from_one, ok.given)) ok.firm (λ k _. omega (arith, same_at {A = ℕ} 64 k 0, kept k)) j in
      omega arith

-- kW moved from place g to place t
module _ (held : List ℕ) (g t kw : ℕ) (apart : t ≢ g) (g-in : g < length held) (t-in : t < length held) (holds : kw ≤ get_or held g 0) where
  shifted_sum : sum (shifted held g t kw) ≡ sum held
  shifted_sum =
      let less = set held g (get_or held g 0 - kw) in
      let same : get_or less t 0 ≡ get_or held t 0 = get_or-set_other held g t (get_or held g 0 - kw) 0 apart in
      omega (arith, same, sum_by-set (λ x. x) held g (get_or held g 0 - kw) 0 g-in, sum_by-set (λ x. x) less t (get_or held t 0 + kw) 0 (omega (arith, length-set held g (get_or held g 0 - kw))))

  shifted_taker : get_or (shifted held g t kw) t 0 ≡ get_or held t 0 + kw
  shifted_taker = get_or-set_same (set held g (get_or held g 0 - kw)) t _ 0 (omega (arith, length-set held g (get_or held g 0 - kw)))

  shifted_other : (j : ℕ) → j ≢ t → get_or (shifted held g t kw) j 0 ≤ get_or held j 0
  shifted_other j other =
      let same : get_or (shifted held g t kw) j 0 ≡ get_or (set held g (get_or held g 0 - kw)) j 0 = get_or-set_other (set held g (get_or held g 0 - kw)) t j _ 0 other in
      let most : get_or (set held g (get_or held g 0 - kw)) j 0 ≤ get_or held j 0 = each_set (λ k v. v ≤ get_or held k 0) held g (get_or held g 0 - kw) 0 g-in (omega arith) (λ k _. omega arith) j in
      omega arith

module _ (b : Book) (a giver taker kw : ℕ) (ok : Cedable b a giver taker kw) (few : length b.register.items ≤ 64) (wide : Wide b.trade) where
  abbrev old : Award
  old = award_at b.trade (a - 1)

  abbrev new : Award
  new = with_held old (shifted old.held (giver - 1) (taker - 1) kw)

  given : a - 1 < length b.trade.items
  given = omega (arith, ok.award_from, ok.award_to)

  -- the two places, which are apart
  pub apart_places : taker - 1 ≢ giver - 1
  apart_places = λ same. ok.apart (omega (arith, ok.giver_from, ok.taker_from))

  giver_in : giver - 1 < length old.held
  giver_in = omega (arith, ok.giver_from, ok.giver_to, wide (a - 1) given)

  taker_in : taker - 1 < length old.held
  taker_in = omega (arith, ok.taker_from, ok.taker_to, wide (a - 1) given)

  -- a fact of each award given out, where the ceded one keeps it
  each_ceded : (P : Award → Type 0) → (P old → P new) → ((k : ℕ) → k < length b.trade.items → P (award_at b.trade k)) → (k : ℕ) → k < length (ceded b a giver taker kw).trade.items → P (award_at (ceded b a giver taker kw).trade k)
  each_ceded P keeps kept =
      let same = length-set b.trade.items (a - 1) new in
      each_set (λ k x. k < length (ceded b a giver taker kw).trade.items → P x) b.trade.items (a - 1) new no_award given (λ _. keeps (kept (a - 1) given)) (λ k _ lt. kept k (omega (arith, lt, same)))

  pub ceded_wide : Wide (ceded b a giver taker kw).trade
  ceded_wide =
      let less = set old.held (giver - 1) (get_or old.held (giver - 1) 0 - kw) in
      each_ceded (λ x. length x.held ≡ 64) (λ was. length-set less (taker - 1) (get_or old.held (taker - 1) 0 + kw) ∙ length-set old.held (giver - 1) (get_or old.held (giver - 1) 0 - kw) ∙ was) wide

  pub ceded_priced : Priced b.trade → Priced (ceded b a giver taker kw).trade
  ceded_priced kept = each_ceded Limited (λ was. was) kept

  pub ceded_whole : Whole b.trade → Whole (ceded b a giver taker kw).trade
  ceded_whole kept = each_ceded (λ x. sum x.held ≡ x.kw) (λ was. shifted_sum old.held (giver - 1) (taker - 1) kw apart_places giver_in taker_in ok.holds ∙ was) kept

  pub ceded_within : Within b → Within (ceded b a giver taker kw)
  ceded_within kept j =
      let changed : (k : ℕ) → held_in_all (ceded b a giver taker kw).trade k + held_under k old ≡ held_in_all b.trade k + held_under k new = λ k. sum_by-set (held_under k) b.trade.items (a - 1) new no_award given in
      ⊎_elim
      (λ same. subst (λ k. held_in_all (ceded b a giver taker kw).trade k ≤ (facility_at b.register k).firm) (sym same) (omega (arith, changed (taker - 1), ok.firm, shifted_taker old.held (giver - 1) (taker - 1) kw apart_places giver_in taker_in ok.holds)))
      (λ other. omega (arith, changed j, kept j, shifted_other old.held (giver - 1) (taker - 1) kw apart_places giver_in taker_in ok.holds j other))
      (cases_eq j (taker - 1))
