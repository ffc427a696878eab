-- The worked figures of the rules: one list, and what it is for each of them to hold. Serves src/lib.rt.
use Rattle.std.specs.Prelude.{◌≡◌, ℕ, Bool, true, false, List, [], ◌∷◌, length, Some, Ok, Err, codes}
use Rattle.calendar.specs.declared.fault.CalendarFault.TheVariants.{Share}
use Rattle.calendar.specs.declared.fault.CalendarFault.TheVariants.{Run}
use Rattle.calendar.specs.Faults as calendar
use Rattle.calendar.specs.Judged.{judged}
use Rattle.calendar.specs.Filling.{fill_rows}
use Rattle.metering.specs.declared.fault.MeteringFault.TheVariants.{Test}
use Rattle.metering.specs.Fault as metering
use Rattle.metering.specs.Testing.{failed}
use Rattle.sharing.specs.Running.{running_meaning}
use Rattle.sharing.specs.Remainder.{remainder_meaning}
use Rattle.sharing.specs.Split.{split}
use Rattle.sharing.specs.declared.fault.SharingFault.TheVariants.{NoWeight}
use Rattle.sharing.specs.Fault as sharing
use Rattle.ledger.specs.declared.registering.Module.{Module}
use Rattle.ledger.specs.Registering.{firm_power}
use Rattle.ledger.specs.Amounts.{amount}
use Rattle.ledger.specs.declared.fault.LedgerFault.TheVariants as fault
use Rattle.ledger.specs.declared.refusal.Refusal.TheVariants.{OverFirm}
use Rattle.ledger.specs.Fault as ledger
use Rattle.statement.specs.declared.fault.StatementFault.TheVariants.{Limits}
use Rattle.statement.specs.Fault as statement

pub data Figure : Type 0 where
  -- a year of so many hours with so many stress hours, in one run, is refused for their share
  refused : (year hours : ℕ) → Figure
  -- such a year is refused for nothing
  passes : (year hours : ℕ) → Figure
  -- such a year, with these runs, is refused for the form of the run of this number
  misplaced : (year : ℕ) (firsts lengths : List ℕ) (place : ℕ) → Figure
  -- modules, each of its installed kW and its coefficient in thousandths, have so much firm power under an access
  firm : (modules : List Module) (access kw : ℕ) → Figure
  -- a test hour with this energy ordered and delivered failed, or did not
  test : (ordered delivered : ℕ) (is_failed : Bool) → Figure
  -- so many kW at a price earn so many cents in a month
  earn : (kw price month cents : ℕ) → Figure
  -- an amount of an award of so many kW is shared among holders of its kW
  share : (amount kw : ℕ) (held cents : List ℕ) → Figure
  -- a total is charged by the running rule, or by the rule of the largest remainder, to rows of these MWh
  running : (total : ℕ) (mwhs charges : List ℕ) → Figure
  remainder : (total : ℕ) (mwhs charges : List ℕ) → Figure
  -- a refusal is printed so
  printed : (refusal text : List ℕ) → Figure

abbrev pub module_of : ℕ → ℕ → Module
module_of kw part = record { installed = kw; coefficient = part }

-- what it is for a figure to hold
abbrev pub Holds : Figure → Type 0
Holds (refused year hours) = judged {A = Unit {0}} (fill_rows year (0 ∷ []) (hours ∷ [])) tt ≡ Err Share
Holds (passes year hours) = judged {A = Unit {0}} (fill_rows year (0 ∷ []) (hours ∷ [])) tt ≡ Ok tt
Holds (misplaced year firsts lengths place) = judged {A = Unit {0}} (fill_rows year firsts lengths) tt ≡ Err (Run place)
Holds (firm modules access kw) = firm_power modules (length modules) access ≡ kw
Holds (test ordered delivered is_failed) = failed (record { ordered = ordered; delivered = delivered }) ≡ is_failed
Holds (earn kw price month cents) = amount kw price month ≡ cents
Holds (share total kw held cents) = split total kw held ≡ cents
Holds (running total ms charges) = running_meaning.charges total ms ≡ charges
Holds (remainder total ms charges) = remainder_meaning.charges total ms ≡ charges
Holds (printed refusal text) = refusal ≡ text

abbrev pub figures : List Figure
figures =
    refused 8_760 437
    ∷ passes 8_760 438
    ∷ passes 8_760 876
    ∷ refused 8_760 877
    ∷ refused 8_784 439
    ∷ passes 8_784 440
    ∷ passes 8_784 878
    ∷ refused 8_784 879
    ∷ misplaced 8_760 (0 ∷ 400 ∷ 800 ∷ []) (400 ∷ 400 ∷ 400 ∷ []) 2
    ∷ firm (module_of 1 500 ∷ module_of 1 500 ∷ []) 5 1
    ∷ firm (module_of 100_000 900 ∷ module_of 20_000 251 ∷ []) 95_000 95_000
    ∷ test 1_000 950 true
    ∷ test 1_000 951 false
    ∷ earn 1_000 1 1 8
    ∷ earn 1_000 1 2 8
    ∷ earn 1_000 1 3 9
    ∷ share 9 1_000 (500 ∷ 500 ∷ []) (4 ∷ 5 ∷ [])
    ∷ running 100 (1 ∷ 1 ∷ 1 ∷ []) (33 ∷ 33 ∷ 34 ∷ [])
    ∷ remainder 100 (1 ∷ 1 ∷ 1 ∷ []) (34 ∷ 33 ∷ 33 ∷ [])
    ∷ printed (calendar.text (Run 2)) (codes "4, layer calendar, place 2")
    ∷ printed (metering.text (Test (Some 2))) (codes "18, layer metering, place 2")
    ∷ printed (sharing.text NoWeight) (codes "23, layer sharing, place 0")
    ∷ printed (statement.text Limits) (codes "26, layer statement, place 0")
    ∷ printed (ledger.text (fault.Calendar (Run 2))) (codes "4, layer calendar, place 2")
    ∷ printed (ledger.text (fault.Own OverFirm)) (codes "15, layer ledger, place 0")
    ∷ []
