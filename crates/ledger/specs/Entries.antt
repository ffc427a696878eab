-- The entries of a journal: each call that may change a ledger, with all that it was given and what it answered. A rule and
-- a report stand there by what they mean.
use Rattle.std.specs.Prelude.{ℕ, Bool, List}
use Rattle.metering.specs.Meaning.{ReportMeaning}
use Rattle.sharing.specs.declared.rows.Row.{Row}
use Rattle.sharing.specs.Rule.{RuleMeaning}
use Rattle.ledger.specs.declared.registering.Module.{Module}
use Rattle.ledger.specs.Judged.{Answer}

pub data Entry : Type 0 where
  opening : (year : ℕ) (firsts lengths : List ℕ) (answer : Answer (Unit {0})) → Entry
  registering : (letter : ℕ) (modules : List Module) (count access : ℕ) (answer : Answer ℕ) → Entry
  switching : (facility : ℕ) (on : Bool) (answer : Answer (Unit {0})) → Entry
  awarding : (facility kw price : ℕ) (answer : Answer ℕ) → Entry
  ceding : (award giver taker kw : ℕ) (answer : Answer (Unit {0})) → Entry
  cutting : (answer : Answer (Unit {0})) → Entry
  reporting : (facility : ℕ) (report : ReportMeaning) (answer : Answer (Unit {0})) → Entry
  advancing : (rule : RuleMeaning) (rows : List Row) (answer : Answer ℕ) (left : List Row) → Entry
  claiming : (facility : ℕ) (answer : Answer (Unit {0})) → Entry
  dismissing : (facility : ℕ) (answer : Answer (Unit {0})) → Entry
  upholding : (facility : ℕ) (report : ReportMeaning) (answer : Answer (Unit {0})) → Entry
  closing : (rule : RuleMeaning) (rows : List Row) (answer : Answer ℕ) (left : List Row) → Entry

-- the entries, the newest first; a point of a journal is what stood after one of them
abbrev pub Journal : Type 0
Journal = List Entry
