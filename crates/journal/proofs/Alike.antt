-- The awards of a trade are those of its journal.
use Rattle.std.proofs.Common.{◌≡◌, ℕ, ◌+◌, ◌<◌, List, map, length, get_or, sum_by, count_by, sym, ◌∙◌, arith}
use Rattle.std.specs.List.{range_with_len}
use Rattle.std.proofs.lemmas.List.{ext_get_or}
use Rattle.std.proofs.lemmas.List.FromFn.{get_or-map-range_with_len, length-map-range_with_len}
use Rattle.ledger.specs.Form.{Trade, no_award, award_at, holdings, Wide}
use Rattle.journal.specs.Acts.{Act, is_award, brought, lost}
use Rattle.journal.specs.Law.{facilities, held, terms, award_by, trade_by}
use Rattle.journal.proofs.Trading.{Trades}

-- what a trade has, by the acts of a journal
abbrev pub TradesBy : List Act → Trade → Type 0
TradesBy h t = Trades (count_by is_award h) (λ a. (terms h a).0) (λ a. (terms h a).1) (λ a f. sum_by (brought a f) h) (λ a f. sum_by (lost a f) h) t

-- what stands at w places, where each is known by its number
pub row_of : {X : Type 0} (g : ℕ → X) (xs : List X) (w : ℕ) (d : X) → length xs ≡ w → ((i : ℕ) → i < w → get_or xs i d ≡ g (i + 1)) → xs ≡ map g (range_with_len 1 w)
row_of g xs w d long each =
    ext_get_or d xs (map g (range_with_len 1 w)) (long ∙ sym (length-map-range_with_len g 1 w)) (λ i l.
    let inside : i < w = omega (arith, l, long) in
    each i inside ∙ sym (get_or-map-range_with_len g 1 w i (i + 1) d inside (omega arith)))

module _ (h : List Act) (t : Trade) (says : TradesBy h t) (wide : Wide t) where
  pub holdings_by : (i : ℕ) → i < length t.items → holdings (award_at t i) ≡ map (held h (i + 1)) facilities
  unfolding facilities
  holdings_by i l = row_of (held h (i + 1)) (holdings (award_at t i)) 64 0 (wide i l) (λ f inside. omega (arith, says.held i f (omega (arith, l, says.count)) inside))

  award_is : (i : ℕ) → i < length t.items → award_at t i ≡ award_by h (i + 1)
  award_is i l =
      let inside : i < count_by is_award h = omega (arith, l, says.count) in
      λ k. record { kw = says.kws i inside k; price = says.prices i inside k; held = holdings_by i l k }

  -- the trade is that of the journal
  pub trade_is : t ≡ trade_by h
  trade_is =
      let all = row_of (award_by h) t.items (count_by is_award h) no_award says.count (λ i l. award_is i (omega (arith, l, says.count))) in
      λ k. record { items = all k }
