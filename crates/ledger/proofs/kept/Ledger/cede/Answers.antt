use Rattle.std.proofs.Common.{◌≡◌, ℕ, ◌-◌, List, get_or, set, Ok, Result, sym, ap, ◌∙◌, subst, arith, rules}
use Rattle.std.proofs.lemmas.List.Sums.{get_or-le-sum_by}
use Rattle.arrayvec.specs.ArrayVec.{with_items}
use Rattle.ledger.specs.declared.state.Award.{Award}
use Rattle.ledger.specs.declared.state.Book.{Book}
use Rattle.ledger.specs.declared.refusal.Refusal.{Refusal}
use Rattle.ledger.specs.Judged.{judged}
use Rattle.ledger.specs.Form.{no_award, held_under}
use Rattle.ledger.specs.Changes.{with_trade}
use Rattle.ledger.specs.Ceding.{cede_rows, shifted, with_held, ceded, Cedes}
use Rattle.ledger.specs.Runs.{noted}
use Rattle.ledger.proofs.Keeping.{Kept}
use Rattle.ledger.proofs.JudgedRows.{refused_exit, accepted_as, accepted_value}
use Rattle.ledger.proofs.Places.{item_written}
use Rattle.ledger.proofs.Traded.{Cedable, cedable}
use Rattle.ledger.proofs.After.{ceded_kept}
use Rattle.ledger.proofs.kept.Ledger.cede.Goals as goal

pub returns-in_err-award : goal.returns-in_err-award
returns-in_err-award c =
    let b = c.args.self.now.book in
    let given : ℕ × ℕ × ℕ = (c.args.award, c.args.giver, c.args.taker) in
    let exit = refused_exit (cede_rows b c.args.award c.args.giver c.args.taker c.args.kw) given (Ok tt) c.in_err-award.field-0.0 c.from_residual.result c.in_err-award.ensures c.from_residual.ensures.1 in
    let cedes : Cedes b c.args.award c.args.giver c.args.taker c.args.kw c.from_residual.result b = record { answer = exit.0; after = exit.1 (ceded b c.args.award c.args.giver c.args.taker c.args.kw) b } in
    record { cedes = cedes; recorded = λ j h. noted j _ c.args.self.now _ h cedes }

-- the book with an award of which kW were moved from facility g to facility t is the ceded one
is_ceded : (b : Book) (award giver taker kw place g t : ℕ) (awards : List Award) (new : Award) → awards ≡ b.trade.items → place ≡ award - 1 → g ≡ giver → t ≡ taker → new ≡ with_held (get_or awards place no_award) (shifted (get_or awards place no_award).held (g - 1) (t - 1) kw) → with_trade b (with_items b.trade (set awards place new)) ≡ ceded b award giver taker kw
is_ceded b award giver taker kw place g t awards new all at from to is =
    ap (with_trade b) (item_written b.trade awards place new all) ∙ cc

-- what a cession that is accepted tells, and whose the numbers are
found_cedable : (b : Book) (award giver taker kw a g t : ℕ) → ◌≡◌ {A = Result (ℕ × ℕ × ℕ) Refusal} (Ok (a, g, t)) (judged (cede_rows b award giver taker kw) (award, giver, taker)) → Cedable b award giver taker kw × (a ≡ award) × (g ≡ giver) × (t ≡ taker)
found_cedable b award giver taker kw a g t accepted =
    let given : ℕ × ℕ × ℕ = (award, giver, taker) in
    let found : ℕ × ℕ × ℕ = (a, g, t) in
    let own : found ≡ given = accepted_value (cede_rows b award giver taker kw) given found accepted in
    (cedable b award giver taker kw (accepted_as (cede_rows b award giver taker kw) given found tt accepted), ap (λ x. x.0) own, ap (λ x. x.1) own, ap (λ x. x.2) own)

pub shift-requires-clause-room : goal.shift-requires-clause-room
shift-requires-clause-room c =
    let s = c.args.self.now in
    let b = s.book in
    let a = c.args.award in
    let taker = c.args.taker in
    let own = found_cedable b a c.args.giver taker c.args.kw _ _ _ c.in_ok-award.ensures in
    let ok = own.0 in
    let place : c.place.result ≡ a - 1 = c.place.ensures.value ∙ ap (λ n. n - 1) own.1 in
    let most = get_or-le-sum_by (held_under (taker - 1)) b.trade.items (a - 1) no_award (omega (arith, ok.award_from, ok.award_to)) in
    rw (c.deref_mut.ensures.value, place, own.3) (omega (arith, ok.firm, s.firm (taker - 1), most))

pub returns : goal.returns
returns c =
    let b = c.args.self.now.book in
    let a = c.args.award in
    let own = found_cedable b a c.args.giver c.args.taker c.args.kw _ _ _ c.in_ok-award.ensures in
    let after = is_ceded b a c.args.giver c.args.taker c.args.kw c.place.result _ _ c.deref_mut.result.now c.shift.new.award c.deref_mut.ensures.value (c.place.ensures.value ∙ ap (λ n. n - 1) own.1) own.2 own.3 c.shift.ensures in
    record { cedes = record { answer = search rules; after = after }; recorded = λ j h. noted j _ c.args.self.now _ h (record { answer = search rules; after = after }) }

pub invariant_of-self : goal.invariant_of-self
invariant_of-self c =
    let b = c.args.self.now.book in
    let a = c.args.award in
    let own = found_cedable b a c.args.giver c.args.taker c.args.kw _ _ _ c.in_ok-award.ensures in
    let after = is_ceded b a c.args.giver c.args.taker c.args.kw c.place.result _ _ c.deref_mut.result.now c.shift.new.award c.deref_mut.ensures.value (c.place.ensures.value ∙ ap (λ n. n - 1) own.1) own.2 own.3 c.shift.ensures in
    subst Kept (sym after) (ceded_kept c.args.self.now a c.args.giver c.args.taker c.args.kw own.0)
