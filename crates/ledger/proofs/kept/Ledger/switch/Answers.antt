use Rattle.std.proofs.Common.{ap, ◌∙◌, rules}
use Rattle.ledger.specs.declared.course.Call.TheVariants as call
use Rattle.ledger.specs.Changes.{with_register}
use Rattle.ledger.specs.Numbers.{admission}
use Rattle.ledger.specs.Runs.{noted}
use Rattle.ledger.proofs.JudgedRows.{accepted_value}
use Rattle.ledger.proofs.Places.{item_written}
use Rattle.ledger.proofs.kept.Ledger.switch.Goals as goal

pub returns-clause-switches : goal.returns-clause-switches
returns-clause-switches c =
    let b = c.args.self.now.book in
    let own = accepted_value (admission call.Switch b c.args.facility) c.args.facility _ c.in_ok-facility.ensures in record {
      answer = search rules;
      after = ap (with_register b) (item_written b.register _ _ c.set_on.new.facility c.deref_mut.ensures.value) ∙ cc;
    }

pub returns-clause-recorded : goal.returns-clause-recorded
returns-clause-recorded c = λ j h. noted j _ c.args.self.now _ h (returns-clause-switches c)
