-- The awards of a book are those of its journal: what a trade holds, by the kW brought and lost under each award. The
-- readings stand for themselves, so that an act that touches none of them leaves all of this as it is.
use Rattle.std.proofs.Common.{◌≡◌, ℕ, ◌+◌, ◌-◌, ◌<◌, ◌≤◌, cond, ◌&&◌, eqb, List, length, get_or, set, replicate, sym, refl, ap, ◌∙◌, ⊎_elim, arith}
use Rattle.std.proofs.lemmas.List.{get_or-set_same, get_or-set_other, length-set, length_push}
use Rattle.std.proofs.lemmas.Bool.{cases_eq, cond-true, cond-false, eq-eqb, ne_eqb, and_left, and_right, and_from}
use Rattle.ledger.specs.declared.state.Book.{Book}
use Rattle.ledger.specs.declared.state.Award.{Award}
use Rattle.ledger.specs.Form.{Trade, no_award, award_at, holdings, held_under, Wide}
use Rattle.ledger.specs.Awarding.{new_award, awarded}
use Rattle.ledger.specs.Ceding.{shifted, with_held, ceded}
use Rattle.ledger.proofs.Places.{each_set, each_push, same_at}
use Rattle.ledger.proofs.Traded.{Awardable, Cedable}

-- n awards, of these kW and prices, with the kW that each facility was brought and lost under each; numbers from 1
pub record Trades (n : ℕ) (kw price : ℕ → ℕ) (brought lost : ℕ → ℕ → ℕ) (t : Trade) : Type 0 where
  pub count : length t.items ≡ n
  pub kws : (i : ℕ) → i < n → (award_at t i).kw ≡ kw (i + 1)
  pub prices : (i : ℕ) → i < n → (award_at t i).price ≡ price (i + 1)
  pub held : (i f : ℕ) → i < n → f < 64 → held_under f (award_at t i) + lost (i + 1) (f + 1) ≡ brought (i + 1) (f + 1)
  pub none_brought : (a f : ℕ) → n < a → brought a f ≡ 0
  pub none_lost : (a f : ℕ) → n < a → lost a f ≡ 0

-- a choice by two pairs of numbers that are not both the same
apart : (x y z w v : ℕ) → (x ≡ y → z ≡ w → ⊥) → cond (eqb x y && eqb z w) v 0 ≡ 0
apart x y z w v not-both =
    ⊎_elim
    (λ same. ⊎_elim (λ too. absurd (not-both same too)) (λ other. cond-false (eqb x y && eqb z w) v 0 (and_right (eqb x y) (eqb z w) (ne_eqb z w other))) (cases_eq z w))
    (λ other. cond-false (eqb x y && eqb z w) v 0 (and_left (eqb x y) (eqb z w) (ne_eqb x y other))) (cases_eq x y)

-- and by two that are
together : (x y z w v : ℕ) → x ≡ y → z ≡ w → cond (eqb x y && eqb z w) v 0 ≡ v
together x y z w v same too = cond-true (eqb x y && eqb z w) v 0 (and_from (eqb x y) (eqb z w) (eq-eqb x y same) (eq-eqb z w too))

-- the kW of a new award: all with the facility f
new_held : (f kw price g : ℕ) → 0 < f → f ≤ 64 → held_under g (new_award f kw price) ≡ cond (eqb (g + 1) f) kw 0
new_held f kw price g from to =
    ⊎_elim
    (λ same. ap (λ x. get_or (set (replicate 64 0) (f - 1) kw) x 0) same ∙ get_or-set_same (replicate 64 0) (f - 1) kw 0 (omega arith) ∙ sym (cond-true (eqb (g + 1) f) kw 0 (eq-eqb (g + 1) f (omega (arith, same)))))
    (λ other. get_or-set_other (replicate 64 0) (f - 1) g kw 0 other ∙ same_at 64 g 0 ∙ sym (cond-false (eqb (g + 1) f) kw 0 (ne_eqb (g + 1) f (λ is. other (omega (arith, is)))))) (cases_eq g (f - 1))

module _ (n : ℕ) (kw price : ℕ → ℕ) (brought lost : ℕ → ℕ → ℕ) (b : Book) (f k p : ℕ) (ok : Awardable b f k p) (few : length b.register.items ≤ 64) (old : Trades n kw price brought lost b.trade) where
  -- a figure of every award, where one award is pushed
  figure_push : (g : Award → ℕ) (so_far : ℕ → ℕ) → ((i : ℕ) → i < n → g (award_at b.trade i) ≡ so_far (i + 1)) → (i : ℕ) → i < n + 1 → g (award_at (awarded b f k p).trade i) ≡ cond (eqb (i + 1) (n + 1)) (g (new_award f k p)) (so_far (i + 1))
  figure_push g so_far each =
      let new = g (new_award f k p) in
      each_push (λ i x. i < n + 1 → g x ≡ cond (eqb (i + 1) (n + 1)) new (so_far (i + 1))) b.trade.items (new_award f k p) no_award
      (λ _. sym (cond-true (eqb (length b.trade.items + 1) (n + 1)) new (so_far (length b.trade.items + 1)) (eq-eqb (length b.trade.items + 1) (n + 1) (omega (arith, old.count)))))
      (λ i other lt. each i (omega (arith, lt, other, old.count)) ∙ sym (cond-false (eqb (i + 1) (n + 1)) new (so_far (i + 1)) (ne_eqb (i + 1) (n + 1) (λ same. other (omega (arith, same, old.count))))))

  -- one award more, all of whose kW the facility f was brought
  pub awarded_trades : Trades (n + 1) (λ a. cond (eqb a (n + 1)) k (kw a)) (λ a. cond (eqb a (n + 1)) p (price a)) (λ a g. cond (eqb a (n + 1) && eqb g f) k 0 + brought a g) lost (awarded b f k p).trade
  awarded_trades = record {
    count = length_push b.trade.items (new_award f k p) ∙ ap (λ x. x + 1) old.count;
    kws = figure_push (λ x. x.kw) kw old.kws;
    prices = figure_push (λ x. x.price) price old.prices;
    held = λ i g lt within.
        each_push (λ j x. j < n + 1 → held_under g x + lost (j + 1) (g + 1) ≡ cond (eqb (j + 1) (n + 1) && eqb (g + 1) f) k 0 + brought (j + 1) (g + 1)) b.trade.items (new_award f k p) no_award
        (λ _.
        let last = length b.trade.items + 1 in
        let now = new_held f k p g ok.from_one (omega (arith, ok.given, few)) in
        let choice = ap (λ t. cond (t && eqb (g + 1) f) k 0) (eq-eqb last (n + 1) (omega (arith, old.count))) in
        omega (arith, now, choice, old.none_brought last (g + 1) (omega (arith, old.count)), old.none_lost last (g + 1) (omega (arith, old.count))))
        (λ j other within-all.
        let choice = apart (j + 1) (n + 1) (g + 1) f k (λ same _. other (omega (arith, same, old.count))) in
        omega (arith, choice, old.held j g (omega (arith, within-all, other, old.count)) within)) i lt;
    none_brought = λ a g more. omega (arith, apart a (n + 1) g f k (λ same _. omega (arith, same, more)), old.none_brought a g (omega (arith, more)));
    none_lost = λ a g more. old.none_lost a g (omega (arith, more));
  }

-- kW shifted from the giver's place to the taker's, and no others
shift_held : (held : List ℕ) (giver taker k g : ℕ) → 0 < giver → giver ≤ length held → 0 < taker → taker ≤ length held → (giver ≡ taker → ⊥) → k ≤ get_or held (giver - 1) 0 → get_or (shifted held (giver - 1) (taker - 1) k) g 0 + cond (eqb (g + 1) giver) k 0 ≡ get_or held g 0 + cond (eqb (g + 1) taker) k 0
shift_held held giver taker k g from to from' to' differ enough =
    let less = set held (giver - 1) (get_or held (giver - 1) 0 - k) in
    let more = get_or held (taker - 1) 0 + k in
    let long : length less ≡ length held = length-set held (giver - 1) (get_or held (giver - 1) 0 - k) in
    ⊎_elim
    (λ is-taker.
    let at-taker = ap (λ x. get_or (set less (taker - 1) more) x 0) is-taker ∙ get_or-set_same less (taker - 1) more 0 (omega (arith, long, from', to')) in
    let was = ap (λ x. get_or held x 0) is-taker in
    let not-giver = cond-false (eqb (g + 1) giver) k 0 (ne_eqb (g + 1) giver (λ same. differ (omega (arith, same, is-taker, from')))) in
    let taken = cond-true (eqb (g + 1) taker) k 0 (eq-eqb (g + 1) taker (omega (arith, is-taker, from'))) in
    omega (arith, at-taker, was, not-giver, taken))
    (λ not-taker.
    let kept = get_or-set_other less (taker - 1) g more 0 not-taker in
    let not_taken = cond-false (eqb (g + 1) taker) k 0 (ne_eqb (g + 1) taker (λ same. not-taker (omega (arith, same)))) in
    ⊎_elim
    (λ is-giver.
    let at-giver = ap (λ x. get_or less x 0) is-giver ∙ get_or-set_same held (giver - 1) (get_or held (giver - 1) 0 - k) 0 (omega (arith, from, to)) in
    let was = ap (λ x. get_or held x 0) is-giver in
    let given = cond-true (eqb (g + 1) giver) k 0 (eq-eqb (g + 1) giver (omega (arith, is-giver, from))) in
    omega (arith, kept, at-giver, was, given, not_taken, enough))
    (λ not-giver.
    let same_held = get_or-set_other held (giver - 1) g (get_or held (giver - 1) 0 - k) 0 not-giver in
    let not-given = cond-false (eqb (g + 1) giver) k 0 (ne_eqb (g + 1) giver (λ same. not-giver (omega (arith, same)))) in
    omega (arith, kept, same_held, not-given, not_taken)) (cases_eq g (giver - 1))) (cases_eq g (taker - 1))

module _ (n : ℕ) (kw price : ℕ → ℕ) (brought lost : ℕ → ℕ → ℕ) (b : Book) (a giver taker k : ℕ) (ok : Cedable b a giver taker k) (few : length b.register.items ≤ 64) (wide : Wide b.trade) (old : Trades n kw price brought lost b.trade) where
  -- the award, as it is left
  abbrev left_award : Award
  left_award = with_held (award_at b.trade (a - 1)) (shifted (holdings (award_at b.trade (a - 1))) (giver - 1) (taker - 1) k)

  given : a - 1 < length b.trade.items
  given = omega (arith, ok.award_from, ok.award_to)

  -- a figure that a cession leaves
  figure : (g : Award → ℕ) → g left_award ≡ g (award_at b.trade (a - 1)) → (i : ℕ) → g (award_at (ceded b a giver taker k).trade i) ≡ g (award_at b.trade i)
  figure g same = each_set (λ i x. g x ≡ g (award_at b.trade i)) b.trade.items (a - 1) left_award no_award given same (λ i _. refl)

  -- so many kW more that the taker was brought, and the giver lost
  pub ceded_trades : Trades n kw price (λ x g. cond (eqb x a && eqb g taker) k 0 + brought x g) (λ x g. cond (eqb x a && eqb g giver) k 0 + lost x g) (ceded b a giver taker k).trade
  ceded_trades = record {
    count = length-set b.trade.items (a - 1) left_award ∙ old.count;
    kws = λ i lt. figure (λ x. x.kw) refl i ∙ old.kws i lt;
    prices = λ i lt. figure (λ x. x.price) refl i ∙ old.prices i lt;
    held = λ i g lt within.
        each_set (λ j x. j < n → held_under g x + (cond (eqb (j + 1) a && eqb (g + 1) giver) k 0 + lost (j + 1) (g + 1)) ≡ cond (eqb (j + 1) a && eqb (g + 1) taker) k 0 + brought (j + 1) (g + 1)) b.trade.items (a - 1) left_award no_award given
        (λ last.
        let same : a - 1 + 1 ≡ a = omega (arith, ok.award_from) in
        let space : length (holdings (award_at b.trade (a - 1))) ≡ 64 = wide (a - 1) given in
        let moved = shift_held (holdings (award_at b.trade (a - 1))) giver taker k g ok.giver_from (omega (arith, ok.giver_to, few, space)) ok.taker_from (omega (arith, ok.taker_to, few, space)) ok.apart ok.holds in
        let to-taker = ap (λ t. cond (t && eqb (g + 1) taker) k 0) (eq-eqb (a - 1 + 1) a same) in
        let from-giver = ap (λ t. cond (t && eqb (g + 1) giver) k 0) (eq-eqb (a - 1 + 1) a same) in
        omega (arith, moved, to-taker, from-giver, old.held (a - 1) g last within))
        (λ j other within-all.
        let differ : j + 1 ≡ a → ⊥ = λ same. other (omega (arith, same)) in
        omega (arith, apart (j + 1) a (g + 1) taker k (λ same _. differ same), apart (j + 1) a (g + 1) giver k (λ same _. differ same), old.held j g within-all within)) i lt;
    none_brought = λ x g more. omega (arith, apart x a g taker k (λ same _. omega (arith, same, more, ok.award_to, old.count)), old.none_brought x g more);
    none_lost = λ x g more. omega (arith, apart x a g giver k (λ same _. omega (arith, same, more, ok.award_to, old.count)), old.none_lost x g more);
  }
