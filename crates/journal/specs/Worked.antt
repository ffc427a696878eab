-- A run worked out: two facilities, one award of 1,000 kW at 12 euros, and two months, of which the second has one stress
-- hour. In month 2 facility 1 cedes half of its kW to facility 2, which reports twice. Serves src/worked.rt.
use Rattle.std.specs.Prelude.{◌≡◌, ℕ, true, false, List, [], ◌∷◌, length, None, Ok, Err, sum_by}
use Rattle.calendar.specs.Stress.{stress_hours}
use Rattle.metering.specs.Credit.{thermal_credit}
use Rattle.metering.specs.Meaning.{ReportMeaning}
use Rattle.sharing.specs.declared.rows.Row.{Row}
use Rattle.sharing.specs.Running.{running_meaning}
use Rattle.sharing.specs.Remainder.{remainder_meaning}
use Rattle.ledger.specs.declared.kept.Ledger.{Ledger}
use Rattle.ledger.specs.declared.registering.Module.{Module}
use Rattle.ledger.specs.declared.refusal.Refusal.TheVariants as refusal
use Rattle.ledger.specs.declared.fault.LedgerFault.TheVariants as fault
use Rattle.ledger.specs.declared.state.Book.{Book}
use Rattle.ledger.specs.declared.state.Line.{Line}
use Rattle.ledger.specs.declared.state.Stage.TheVariants.{Month}
use Rattle.ledger.specs.declared.state.Phase.TheVariants.{Trading}
use Rattle.ledger.specs.Form.{facility_at}
use Rattle.ledger.specs.Judged.{ruled}
use Rattle.ledger.specs.Lines.{closed_months, line_rows, booked_line}
use Rattle.ledger.specs.Readings.{holding_at}
use Rattle.ledger.specs.Entries.{Journal, opening, registering, switching, awarding, ceding, cutting, reporting, advancing, closing}
use Rattle.ledger.specs.Runs.{Recorded}
use Rattle.journal.specs.Acts.{Act, acts, charged_by}
use Rattle.journal.specs.Law.{held, firm, line, earned_by, all_months, Holds}

-- one module of 2,000 kW, all of them firm, in the four that registering is given
abbrev pub modules : List Module
modules =
    record { installed = 2_000; coefficient = 1_000 }
    ∷ record { installed = 0; coefficient = 0 }
    ∷ record { installed = 0; coefficient = 0 } ∷ record { installed = 0; coefficient = 0 } ∷ []

-- a buyer of one MWh, with this charge; and three of them
abbrev pub buyer : ℕ → ℕ → Row
buyer number charge = record { id = number; mwh = 1; charge = charge }

abbrev pub buyers : ℕ → ℕ → ℕ → List Row
buyers x y z = buyer 1 x ∷ buyer 2 y ∷ buyer 3 z ∷ []

-- a thermal facility's report of one hour, at these kW
abbrev pub at_kw : ℕ → ReportMeaning
at_kw kw = record {
  letter = 84;
  shortest = 3;
  longest = 24;
  credits = thermal_credit (record { declared = kw; least = 100 }) ∷ [];
  test = None;
}

-- month 1; one award is refused, since it is too small
abbrev pub month_one : Journal
month_one =
    closing running_meaning (buyers 0 0 0) (Ok 100) (buyers 33 33 34)
    ∷ advancing running_meaning (buyers 0 0 0) (Ok 100) (buyers 33 33 34)
    ∷ cutting (Ok tt)
    ∷ awarding 1 1_000 12 (Ok 1)
    ∷ awarding 1 600 12 (Err (fault.Own refusal.OutOfLimits))
    ∷ switching 1 true (Ok tt)
    ∷ registering 84 modules 1 2_000 (Ok 2)
    ∷ registering 84 modules 1 2_000 (Ok 1)
    ∷ opening 8_760 (1_415 ∷ []) (438 ∷ []) (Ok tt) ∷ []

-- month 2, before its advance
abbrev pub february : Journal
february =
    reporting 2 (at_kw 240) (Ok tt)
    ∷ reporting 2 (at_kw 0) (Ok tt)
    ∷ reporting 1 (at_kw 500) (Ok tt)
    ∷ cutting (Ok tt) ∷ ceding 1 1 2 500 (Ok tt) ∷ switching 2 true (Ok tt) ∷ month_one

-- and before its closing
abbrev pub advanced_february : Journal
advanced_february = advancing running_meaning (buyers 33 33 34) (Ok 74) (buyers 24 25 25) ∷ february

-- both months
abbrev pub journal : Journal
journal = closing remainder_meaning (buyers 33 33 34) (Ok 74) (buyers 25 25 24) ∷ advanced_february

abbrev pub line_with : ℕ → ℕ → Line
line_with right penalty = record { right = right; penalty = penalty }

-- what the law says of every book, where these are the acts
abbrev pub Says : List Act → (Book → Type 0) → Type 0
Says h Fact = (b : Book) → Holds h b → Fact b

-- What a book has after the run. The facilities 3 to 64 were not registered.
pub record Figures (b : Book) : Type 0 where
  pub stage : b.stage ≡ Month 3 Trading
  pub february_stress : stress_hours b.calendar 2 ≡ 1_415 ∷ []
  pub march_stress : length (stress_hours b.calendar 3) ≡ 437
  pub registered : length b.register.items ≡ 2
  pub awarded : length b.trade.items ≡ 1
  pub closed : closed_months b.stage ≡ 2
  pub second_firm : (facility_at b.register 1).firm ≡ 2_000
  pub last_firm : (facility_at b.register 63).firm ≡ 0
  pub second_on : (facility_at b.register 1).on ≡ true
  pub last_off : (facility_at b.register 63).on ≡ false
  pub first_holds : holding_at b 1 1 ≡ 500
  pub second_holds : holding_at b 1 2 ≡ 500
  pub january_read : ruled (line_rows b 1 1) (Ok (booked_line b 1 1)) ≡ Ok (line_with 100 0)
  pub february_read : ruled (line_rows b 2 2) (Ok (booked_line b 2 2)) ≡ Ok (line_with 50 26)
  pub february_line : booked_line b 2 2 ≡ line_with 50 26
  pub last_line : booked_line b 2 64 ≡ line_with 0 0
  pub penalties : all_months (λ l. l.penalty) b.calendar (acts journal) ≡ 26

-- The run was made, on some ledger; what the law's words come to for it, and what the law says of every book with its acts.
pub record WorkedRun : Type 0 where
  pub ledger : Ledger
  pub recorded : Recorded journal ledger
  -- by the words of the law
  pub first_firm : firm (acts journal) 1 ≡ 2_000
  pub first_held : held (acts journal) 1 1 ≡ 500
  pub second_held : held (acts journal) 1 2 ≡ 500
  pub first_january : line ledger.book.calendar (acts journal) 1 1 ≡ line_with 100 0
  pub second_january : line ledger.book.calendar (acts journal) 1 2 ≡ line_with 0 0
  pub first_february : line ledger.book.calendar (acts journal) 2 1 ≡ line_with 50 0
  pub second_february : line ledger.book.calendar (acts journal) 2 2 ≡ line_with 50 26
  pub earned : earned_by (acts journal) 2 ≡ 200
  pub all_charged : sum_by charged_by (acts journal) ≡ 174
  -- by the law, of every book and so of the ledger's
  pub figures : Says (acts journal) Figures
  pub own_figures : Figures ledger.book
