-- What an accepted call tells of the book that it was made on, a name for each fact.
use Rattle.std.proofs.Common.{◌≡◌, ℕ, ◌<◌, ◌≤◌, true, eqb, List, length, Ok, refl, ap, arith}
use Rattle.std.proofs.lemmas.Bool.{false≢true, and_parts, eqb-true}
use Rattle.std.proofs.lemmas.Bool.Decides.{nat_tests}
use Rattle.sharing.specs.declared.rows.Row.{Row}
use Rattle.ledger.specs.declared.registering.Module.{Module}
use Rattle.ledger.specs.declared.course.Call.{Call}
use Rattle.ledger.specs.declared.course.Call.TheVariants as call
use Rattle.ledger.specs.declared.state.Book.{Book}
use Rattle.ledger.specs.declared.state.Stage.{Stage}
use Rattle.ledger.specs.declared.state.Stage.TheVariants.{Unopened, Month, Finished}
use Rattle.ledger.specs.declared.state.Phase.{Phase}
use Rattle.ledger.specs.declared.state.Phase.TheVariants.{Trading, Metering, Claims}
use Rattle.ledger.specs.Judged.{judged}
use Rattle.ledger.specs.Course.{course, unopened, trading, metering, claims, in_month, belongs}
use Rattle.ledger.specs.Registering.{register_rows}
use Rattle.ledger.specs.Switching.{switch_rows}
use Rattle.ledger.specs.Awarding.{award_rows}
use Rattle.ledger.specs.Ceding.{cede_rows}
use Rattle.ledger.specs.Cutting.{cut_rows}
use Rattle.ledger.specs.Reporting.{letter_rows}
use Rattle.ledger.specs.Settling.{rows_within}
use Rattle.ledger.specs.Advancing.{advance_rows}
use Rattle.ledger.specs.Closing.{close_rows}

-- a call that belongs to one phase alone is made in that phase of some month
stage_of : (c : Call) (q : Phase) → ((m : ℕ) (p : Phase) → in_month c m p ≡ true → p ≡ q) → (s : Stage) → belongs c s ≡ true → (m : ℕ) × (s ≡ Month m q)
stage_of c q only Unopened is-so = absurd (false≢true is-so)
stage_of c q only (Month m p) is-so = (m, ap (Month m) (only m p is-so))
stage_of c q only Finished is-so = absurd (false≢true is-so)

-- an opening that is accepted is the first
pub openable : (s : Stage) → judged {A = Unit {0}} (course call.Open s) tt ≡ Ok tt → unopened s ≡ true
openable Unopened is = refl
openable (Month m p) is = let never : ◌≡◌ {A = ℕ} 0 1 = cc in absurd (omega arith)
openable Finished is = let never : ◌≡◌ {A = ℕ} 0 1 = cc in absurd (omega arith)

only_trading : (p : Phase) → trading p ≡ true → p ≡ Trading
only_trading Trading is-so = refl
only_trading Metering is-so = absurd (false≢true is-so)
only_trading Claims is-so = absurd (false≢true is-so)

only_metering : (p : Phase) → metering p ≡ true → p ≡ Metering
only_metering Trading is-so = absurd (false≢true is-so)
only_metering Metering is-so = refl
only_metering Claims is-so = absurd (false≢true is-so)

only_claims : (p : Phase) → claims p ≡ true → p ≡ Claims
only_claims Trading is-so = absurd (false≢true is-so)
only_claims Metering is-so = absurd (false≢true is-so)
only_claims Claims is-so = refl

-- registering belongs to every phase
pub registrable : (b : Book) (letter : ℕ) (modules : List Module) (count access n v : ℕ) → judged (register_rows b letter modules count access) n ≡ Ok v → belongs call.Register b.stage ≡ true
registrable b letter modules count access n v accepted = grind (arith, nat_tests)

-- switching names a facility, in the trading of some month
pub record Switchable (b : Book) (f : ℕ) : Type 0 where
  pub month : ℕ
  pub stage : b.stage ≡ Month month Trading
  pub from_one : 0 < f
  pub given : f ≤ length b.register.items

pub switchable : (b : Book) (f : ℕ) → judged {A = Unit {0}} (switch_rows b f) tt ≡ Ok tt → Switchable b f
switchable b f accepted =
    let in_turn : belongs call.Switch b.stage ≡ true = grind (arith, nat_tests) in
    let at = stage_of call.Switch Trading (λ m p. only_trading p) b.stage in_turn in
    record { month = at.0; stage = at.1; from_one = grind (arith, nat_tests); given = grind (arith, nat_tests) }

-- awards belong to the trading of month 1
first_trading : (s : Stage) → belongs call.Award s ≡ true → s ≡ Month 1 Trading
first_trading Unopened is-so = absurd (false≢true is-so)
first_trading (Month m p) is-so =
    let parts = and_parts (eqb m 1) (trading p) is-so in
    λ i. Month (eqb-true m 1 parts.0 i) (only_trading p parts.1 i)
first_trading Finished is-so = absurd (false≢true is-so)

pub award_stage : (b : Book) (f kw price n v : ℕ) → judged (award_rows b f kw price) n ≡ Ok v → b.stage ≡ Month 1 Trading
award_stage b f kw price n v accepted =
    let in_turn : belongs call.Award b.stage ≡ true = grind (arith, nat_tests) in
    first_trading b.stage in_turn

pub cede_stage : (b : Book) (a giver taker kw : ℕ) → judged {A = Unit {0}} (cede_rows b a giver taker kw) tt ≡ Ok tt → (m : ℕ) × (b.stage ≡ Month m Trading)
cede_stage b a giver taker kw accepted =
    let in_turn : belongs call.Cede b.stage ≡ true = grind (arith, nat_tests) in
    stage_of call.Cede Trading (λ m p. only_trading p) b.stage in_turn

pub cut_stage : (b : Book) → judged {A = Unit {0}} (cut_rows b) tt ≡ Ok tt → (m : ℕ) × (b.stage ≡ Month m Trading)
cut_stage b accepted =
    let in_turn : belongs call.CutOff b.stage ≡ true = grind (arith, nat_tests) in
    stage_of call.CutOff Trading (λ m p. only_trading p) b.stage in_turn

-- a report names a facility, in some month after its cut-off
pub record Reportable (b : Book) (q : Phase) (f : ℕ) : Type 0 where
  pub month : ℕ
  pub stage : b.stage ≡ Month month q
  pub from_one : 0 < f
  pub given : f ≤ length b.register.items

pub reportable : (b : Book) (f letter : ℕ) → judged {A = Unit {0}} (letter_rows call.Report b f letter) tt ≡ Ok tt → Reportable b Metering f
reportable b f letter accepted =
    let in_turn : belongs call.Report b.stage ≡ true = grind (arith, nat_tests) in
    let at = stage_of call.Report Metering (λ m p. only_metering p) b.stage in_turn in
    record { month = at.0; stage = at.1; from_one = grind (arith, nat_tests); given = grind (arith, nat_tests) }

pub answerable : (b : Book) (f letter : ℕ) → judged {A = Unit {0}} (letter_rows call.Answer b f letter) tt ≡ Ok tt → Reportable b Claims f
answerable b f letter accepted =
    let in_turn : belongs call.Answer b.stage ≡ true = grind (arith, nat_tests) in
    let at = stage_of call.Answer Claims (λ m p. only_claims p) b.stage in_turn in
    record { month = at.0; stage = at.1; from_one = grind (arith, nat_tests); given = grind (arith, nat_tests) }

-- an advance and a closing are made in a phase of some month, with rows within their limits
pub record Settleable (b : Book) (q : Phase) (rows : List Row) : Type 0 where
  pub month : ℕ
  pub stage : b.stage ≡ Month month q
  pub limits : rows_within rows ≡ true

pub advanceable : (b : Book) (rows : List Row) → judged {A = Unit {0}} (advance_rows b rows) tt ≡ Ok tt → Settleable b Metering rows
advanceable b rows accepted =
    let in_turn : belongs call.Advance b.stage ≡ true = grind (arith, nat_tests) in
    let at = stage_of call.Advance Metering (λ m p. only_metering p) b.stage in_turn in
    record { month = at.0; stage = at.1; limits = grind (arith, nat_tests) }

pub closable : (b : Book) (rows : List Row) → judged {A = Unit {0}} (close_rows b rows) tt ≡ Ok tt → Settleable b Claims rows
closable b rows accepted =
    let in_turn : belongs call.Close b.stage ≡ true = grind (arith, nat_tests) in
    let at = stage_of call.Close Claims (λ m p. only_claims p) b.stage in_turn in
    record { month = at.0; stage = at.1; limits = grind (arith, nat_tests) }
