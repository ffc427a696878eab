use Rattle.std.proofs.Common.{◌≡◌, ◌+◌, ◌<◌, false, [], ◌∷◌, ◌++◌, length, Ok, sym, subst, arith, rules}
use Rattle.ledger.specs.Form.{Register}
use Rattle.ledger.specs.Changes.{with_register}
use Rattle.ledger.specs.Registering.{register_rows, firm_power, registered, Registers}
use Rattle.ledger.specs.Runs.{noted}
use Rattle.ledger.proofs.JudgedRows.{refused_exit}
use Rattle.std.proofs.lemmas.Bool.Decides.{nat_tests}
use Rattle.ledger.proofs.Keeping.{Kept}
use Rattle.ledger.proofs.After.{registered_kept}
use Rattle.ledger.proofs.kept.Ledger.register.Goals as goal

pub returns-in_err-number : goal.returns-in_err-number
returns-in_err-number c =
    let b = c.args.self.now.book in
    let n = length b.register.items + 1 in
    let exit = refused_exit (register_rows b c.args.letter c.args.modules c.args.count c.args.access) n (Ok n) c.in_err-number.field-0.0 c.from_residual.result c.in_err-number.ensures c.from_residual.ensures.1 in
    let registers : Registers b c.args.letter c.args.modules c.args.count c.args.access c.from_residual.result b = record { answer = exit.0; after = exit.1 (registered b c.args.letter (firm_power c.args.modules c.args.count c.args.access)) b } in
    record { registers = registers; full = (λ is. grind (arith, nat_tests), λ both. grind (arith, nat_tests)); count = search rules; recorded = λ j h. noted j _ c.args.self.now _ h registers }

pub invariant_of-self : goal.invariant_of-self
invariant_of-self c =
    let was = c.in_ok-number.ensures in
    let room : length c.args.self.now.book.register.items < 64 = search rules in
    let pushed : c.push.new.self ≡ record { items = c.args.self.now.book.register.items ++ (record { letter = c.args.letter; firm = c.firm_power-firm.result; on = false }) ∷ [] } = λ i. record { items = c.push.ensures.items i } in
    subst (λ (r : Register). Kept (with_register c.args.self.now.book r)) (sym pushed) (registered_kept c.args.self.now c.args.letter c.firm_power-firm.result room c.firm_power-firm.ensures.bound)
