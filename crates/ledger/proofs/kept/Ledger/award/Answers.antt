use Rattle.std.proofs.Common.{◌≡◌, ℕ, ◌+◌, [], ◌∷◌, ◌++◌, length, Ok, sym, ap, ◌∙◌, subst, arith, rules}
use Rattle.std.proofs.lemmas.Bool.Decides.{nat_tests}
use Rattle.ledger.specs.declared.state.Award.{Award}
use Rattle.ledger.specs.declared.state.Book.{Book}
use Rattle.ledger.specs.Form.{Trade}
use Rattle.ledger.specs.Changes.{with_trade}
use Rattle.ledger.specs.Awarding.{award_rows, new_award, awarded, Awards}
use Rattle.ledger.specs.Runs.{noted}
use Rattle.ledger.proofs.JudgedRows.{refused_exit, accepted_value}
use Rattle.ledger.proofs.Keeping.{Kept}
use Rattle.ledger.proofs.Traded.{awardable}
use Rattle.ledger.proofs.After.{awarded_kept}
use Rattle.ledger.proofs.kept.Ledger.award.Goals as goal

pub returns-in_err-holder : goal.returns-in_err-holder
returns-in_err-holder c =
    let b = c.args.self.now.book in
    let f = c.args.facility in
    let exit = refused_exit (award_rows b f c.args.kw c.args.price) f (Ok (length b.trade.items + 1)) c.in_err-holder.field-0.0 c.from_residual.result c.in_err-holder.ensures c.from_residual.ensures.1 in
    let awards : Awards b f c.args.kw c.args.price c.from_residual.result b = record { answer = exit.0; after = exit.1 (awarded b f c.args.kw c.args.price) b } in
    record { awards = awards; full = (λ is. grind (arith, nat_tests), λ both. grind (arith, nat_tests)); recorded = λ j h. noted j _ c.args.self.now _ h awards }

-- the book with a new award pushed, all of whose kW facility n holds, is the awarded one
is_awarded : (b : Book) (f kw price n : ℕ) (new : Award) (trade : Trade) → trade.items ≡ b.trade.items ++ new ∷ [] → n ≡ f → new ≡ new_award n kw price → with_trade b trade ≡ awarded b f kw price
is_awarded b f kw price n new trade pushed own is =
    let all = pushed ∙ ap (λ x. b.trade.items ++ x ∷ []) (is ∙ ap (λ k. new_award k kw price) own) in
    λ i. with_trade b (record { items = all i })

pub returns-clause-awards : goal.returns-clause-awards
returns-clause-awards c =
    let b = c.args.self.now.book in
    let f = c.args.facility in
    let own = accepted_value (award_rows b f c.args.kw c.args.price) f c.in_ok-holder.holder.number c.in_ok-holder.ensures in
    record { answer = search rules; after = is_awarded b f c.args.kw c.args.price _ c.new_award.result c.push.new.self c.push.ensures.items own c.new_award.ensures }

pub returns-clause-recorded : goal.returns-clause-recorded
returns-clause-recorded c = λ j h. noted j _ c.args.self.now _ h (returns-clause-awards c)

pub invariant_of-self : goal.invariant_of-self
invariant_of-self c =
    let b = c.args.self.now.book in
    let f = c.args.facility in
    let own = accepted_value (award_rows b f c.args.kw c.args.price) f c.in_ok-holder.holder.number c.in_ok-holder.ensures in
    let ok = awardable b f c.args.kw c.args.price f c.in_ok-holder.holder.number (sym c.in_ok-holder.ensures) in
    subst Kept (sym (is_awarded b f c.args.kw c.args.price _ c.new_award.result c.push.new.self c.push.ensures.items own c.new_award.ensures)) (awarded_kept c.args.self.now f c.args.kw c.args.price ok)
