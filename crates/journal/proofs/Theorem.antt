-- The law of the journal, by induction on its entries: every book that a journal is recorded of has what the journal's acts
-- say.
use Rattle.std.proofs.Common.{◌≡◌, ℕ, ◌+◌, Bool, ◌&&◌, eqb, ltb, List, [], ◌∷◌, length, None, Ok, Err, sum, Result, sym, refl, ap, ◌∙◌, subst, inl, inr, arith}
use Rattle.std.proofs.lemmas.Bool.{cases_Bool, cond-true, cond-false, eqb-false, ltb-false, and_cases}
use Rattle.metering.specs.declared.measuring.Measured.{Measured}
use Rattle.metering.specs.declared.fault.MeteringFault.{MeteringFault}
use Rattle.metering.specs.Meaning.{ReportMeaning}
use Rattle.sharing.specs.declared.rows.Row.{Row}
use Rattle.sharing.specs.declared.fault.SharingFault.TheVariants.{NoWeight}
use Rattle.sharing.specs.Rows.{mwhs}
use Rattle.sharing.specs.Rule.{RuleMeaning}
use Rattle.ledger.specs.declared.course.Call.TheVariants as call
use Rattle.ledger.specs.declared.fault.LedgerFault.{LedgerFault}
use Rattle.ledger.specs.declared.fault.LedgerFault.TheVariants as fault
use Rattle.ledger.specs.declared.registering.Module.{Module}
use Rattle.ledger.specs.declared.kept.Ledger.{Ledger}
use Rattle.ledger.specs.declared.state.Book.{Book}
use Rattle.ledger.specs.declared.state.Claim.{Claim}
use Rattle.ledger.specs.declared.state.Claim.TheVariants as claim
use Rattle.ledger.specs.declared.state.Phase.TheVariants.{Metering, Claims}
use Rattle.ledger.specs.Judged.{Rows, judged, ruled}
use Rattle.ledger.specs.Form.{month_of}
use Rattle.ledger.specs.Making.{blank}
use Rattle.ledger.specs.Course.{course}
use Rattle.ledger.specs.Opening.{opened, year_answer}
use Rattle.ledger.specs.Switching.{switch_rows}
use Rattle.ledger.specs.Registering.{register_rows, firm_power, registered as registered-in}
use Rattle.ledger.specs.Awarding.{award_rows, awarded as awarded-in}
use Rattle.ledger.specs.Ceding.{cede_rows}
use Rattle.ledger.specs.Cutting.{cut_rows}
use Rattle.ledger.specs.Reporting.{letter_rows, measured_for, taken, with_measured}
use Rattle.ledger.specs.Upholding.{upheld_by, upheld}
use Rattle.ledger.specs.Settling.{total_now, shared_answer}
use Rattle.ledger.specs.Advancing.{advance_rows}
use Rattle.ledger.specs.Closing.{close_rows}
use Rattle.ledger.specs.Claiming.{claim_of}
use Rattle.ledger.specs.Entries.{Entry, Journal, opening, registering, switching, awarding, ceding, cutting, reporting, advancing, claiming, dismissing, upholding, closing}
use Rattle.ledger.specs.Runs.{Allowed, Recorded, made, noted}
use Rattle.ledger.proofs.JudgedRows.{accepted_by, passed_through}
use Rattle.ledger.proofs.Places.{same_at}
use Rattle.ledger.proofs.Traded.{awardable, cedable}
use Rattle.journal.specs.Acts.{Act, acts, registered, awarded}
use Rattle.journal.proofs.Tables.{openable, registrable, switchable, award_stage, cede_stage, cut_stage, reportable, answerable, advanceable, closable}
use Rattle.journal.proofs.Simulation.{Simulates}
use Rattle.journal.proofs.Acting.{opened_simulates, registered_simulates, switched_simulates, awarded_simulates, ceded_simulates}
use Rattle.journal.proofs.Metering.{cut_simulates, reported_simulates, claims_simulate, advanced_simulates}
use Rattle.journal.proofs.Charging.{charged_by_rule}
use Rattle.journal.proofs.Closing.{closed_simulates}

-- a report that is taken was measured
taken_measured : (m : Result Measured MeteringFault) (u : Unit {0}) → taken m ≡ Ok u → (v : Measured) × (m ≡ Ok v)
taken_measured (Ok v) u is = (v, refl)
taken_measured (Err e) u is = let never : ◌≡◌ {A = ℕ} 0 1 = cc in absurd (omega arith)

-- and so was one that an upheld claim brings
upheld_measured : (m : Result Measured MeteringFault) (x : Claim) (u : Unit {0}) → upheld_by m x ≡ Ok u → (v : Measured) × (m ≡ Ok v)
upheld_measured (Ok v) x u is = (v, refl)
upheld_measured (Err e) x u is = let never : ◌≡◌ {A = ℕ} 0 1 = cc in absurd (omega arith)

-- a total that is shared is the month's, and is nothing where there is no weight
shared_total : (rule : RuleMeaning) (c total : ℕ) (rows : List Row) → shared_answer rule c rows ≡ Ok total → (total ≡ c) × (sum (rule.weights c (mwhs rows)) ≡ 0 → c ≡ 0)
shared_total rule c total rows is =
    let all = sum (rule.weights c (mwhs rows)) in
    elim (cases_Bool (eqb all 0 && ltb 0 c)) [
      | inl refused ↦ (let never = sym (cond-true (eqb all 0 && ltb 0 c) (Err (fault.Sharing NoWeight)) (Ok c) refused) ∙ is in let no : ◌≡◌ {A = ℕ} 0 1 = cc in absurd (omega arith))
      | inr passes ↦
          (let same = sym (cond-false (eqb all 0 && ltb 0 c) (Err (fault.Sharing NoWeight)) (Ok c) passes) ∙ is in (
            cc,
            λ none.
                elim (and_cases (eqb all 0) (ltb 0 c) passes) [
                  | inl some ↦ absurd (eqb-false all 0 some none)
                  | inr nothing ↦ omega (arith, ltb-false 0 c nothing)
                ],
          ))
    ]

-- a call that is accepted, by its table and the answer that stands behind it
passed : {A : Type 0} (rows : Rows) (x : Result A LedgerFault) (v : A) → Ok v ≡ ruled rows x → (judged {A = Unit {0}} rows tt ≡ Ok tt) × (x ≡ Ok v)
passed rows x v is =
    let through = passed_through rows x v (Ok tt) (sym is) in
    ((accepted_by rows tt tt through.1).0, through.0)

-- a book that is another
same_book : (h : List Act) (b b' : Book) → b' ≡ b → Simulates h b → Simulates h b'
same_book h b b' is says = subst (Simulates h) (sym is) says

module _ (l : Ledger) (j : Journal) (old : Simulates (acts j) l.book) where
  abbrev b : Book
  b = l.book

  registering_step : (letter : ℕ) (modules : List Module) (count access f : ℕ) (b' : Book) → Allowed b (registering letter modules count access (Ok f)) b' → Simulates (acts (registering letter modules count access (Ok f) ∷ j)) b'
  registering_step letter modules count access f b' t =
      let n = length b.register.items + 1 in
      let power = firm_power modules count access in
      let accepted = accepted_by (register_rows b letter modules count access) n f (sym t.answer) in
      let in_turn = registrable b letter modules count access n n accepted.0 in
      same_book _ _ b' t.after (subst (λ x. Simulates (registered x letter power ∷ acts j) (registered-in b letter power)) (sym accepted.1) (registered_simulates l (acts j) old letter power in_turn))

  switching_step : (f : ℕ) (on : Bool) (u : Unit {0}) (b' : Book) → Allowed b (switching f on (Ok u)) b' → Simulates (acts (switching f on (Ok u) ∷ j)) b'
  switching_step f on u b' t =
      let ok = switchable b f (accepted_by (switch_rows b f) tt u (sym t.answer)).0 in
      same_book _ _ b' t.after (switched_simulates l (acts j) old f on ok.month ok.stage ok.from_one ok.given)

  awarding_step : (f kw price a : ℕ) (b' : Book) → Allowed b (awarding f kw price (Ok a)) b' → Simulates (acts (awarding f kw price (Ok a) ∷ j)) b'
  awarding_step f kw price a b' t =
      let n = length b.trade.items + 1 in
      let accepted = accepted_by (award_rows b f kw price) n a (sym t.answer) in
      same_book _ _ b' t.after (subst (λ x. Simulates (awarded x f kw price ∷ acts j) (awarded-in b f kw price)) (sym accepted.1) (awarded_simulates l (acts j) old f kw price (award_stage b f kw price n n accepted.0) (awardable b f kw price n n accepted.0)))

  ceding_step : (a giver taker kw : ℕ) (u : Unit {0}) (b' : Book) → Allowed b (ceding a giver taker kw (Ok u)) b' → Simulates (acts (ceding a giver taker kw (Ok u) ∷ j)) b'
  ceding_step a giver taker kw u b' t =
      let accepted = (accepted_by (cede_rows b a giver taker kw) tt u (sym t.answer)).0 in
      let at = cede_stage b a giver taker kw accepted in
      same_book _ _ b' t.after (ceded_simulates l (acts j) old a giver taker kw at.0 at.1 (cedable b a giver taker kw accepted))

  cutting_step : (u : Unit {0}) (b' : Book) → Allowed b (cutting (Ok u)) b' → Simulates (acts (cutting (Ok u) ∷ j)) b'
  cutting_step u b' t =
      let at = cut_stage b (accepted_by (cut_rows b) tt u (sym t.answer)).0 in
      same_book _ _ b' t.after (cut_simulates l (acts j) old at.0 at.1)

  reporting_step : (f : ℕ) (x : ReportMeaning) (u : Unit {0}) (b' : Book) → Allowed b (reporting f x (Ok u)) b' → Simulates (acts (reporting f x (Ok u) ∷ j)) b'
  reporting_step f x u b' t =
      let accepted = passed (letter_rows call.Report b f x.letter) (taken (measured_for b f x)) u t.answer in
      let ok = reportable b f x.letter accepted.0 in
      let came = taken_measured (measured_for b f x) u accepted.1 in
      same_book _ _ b' (t.after ∙ ap (with_measured b f) came.1) (reported_simulates l (acts j) old f x came.0 ok.month Metering (inl refl) ok.stage ok.from_one ok.given came.1)

  upholding_step : (f : ℕ) (x : ReportMeaning) (u : Unit {0}) (b' : Book) → Allowed b (upholding f x (Ok u)) b' → Simulates (acts (upholding f x (Ok u) ∷ j)) b'
  upholding_step f x u b' t =
      let accepted = passed (letter_rows call.Answer b f x.letter) (upheld_by (measured_for b f x) (claim_of b f)) u t.answer in
      let ok = answerable b f x.letter accepted.0 in
      let came = upheld_measured (measured_for b f x) (claim_of b f) u accepted.1 in
      same_book _ _ b' (t.after ∙ ap (upheld b f) came.1) (claims_simulate _ _ f claim.Answered (reported_simulates l (acts j) old f x came.0 ok.month Claims (inr refl) ok.stage ok.from_one ok.given came.1))

  advancing_step : (rule : RuleMeaning) (rows : List Row) (total : ℕ) (left : List Row) (b' : Book) → Allowed b (advancing rule rows (Ok total) left) b' → Simulates (acts (advancing rule rows (Ok total) left ∷ j)) b'
  advancing_step rule rows total left b' t =
      let accepted = passed (advance_rows b rows) (shared_answer rule (total_now b) rows) total t.1.answer in
      let ok = advanceable b rows accepted.0 in
      let answer = shared_total rule (total_now b) total rows accepted.1 in
      same_book _ _ b' t.1.after (advanced_simulates l (acts j) old rule rows total left ok.month ok.stage (λ z. charged_by_rule l (acts j) old ok.month z rule rows total left (ap month_of ok.stage) t.0 ok.limits answer.0 answer.1 t.1.rows))

  closing_step : (rule : RuleMeaning) (rows : List Row) (total : ℕ) (left : List Row) (b' : Book) → Allowed b (closing rule rows (Ok total) left) b' → Simulates (acts (closing rule rows (Ok total) left ∷ j)) b'
  closing_step rule rows total left b' t =
      let accepted = passed (close_rows b rows) (shared_answer rule (total_now b) rows) total t.1.answer in
      let ok = closable b rows accepted.0 in
      let answer = shared_total rule (total_now b) total rows accepted.1 in
      same_book _ _ b' t.1.after (closed_simulates l (acts j) old rule rows total left ok.month ok.stage (λ z. charged_by_rule l (acts j) old ok.month z rule rows total left (ap month_of ok.stage) t.0 ok.limits answer.0 answer.1 t.1.rows))

  -- one entry more: a refused one leaves the book, an accepted one does what it says
  step : (e : Entry) (b' : Book) → Allowed b e b' → Simulates (acts (e ∷ j)) b'
  step (opening year firsts lengths (Ok u)) b' t =
      let ok = passed (course call.Open b.stage) (year_answer year firsts lengths) u t.answer in
      same_book _ (opened b year firsts lengths) b' t.after (opened_simulates l (acts j) old year firsts lengths (openable b.stage ok.0))
  step (opening year firsts lengths (Err e)) b' t = same_book _ b b' t.after old
  step (registering letter modules count access (Ok f)) b' t = registering_step letter modules count access f b' t
  step (registering letter modules count access (Err e)) b' t = same_book _ b b' t.after old
  step (switching f on (Ok u)) b' t = switching_step f on u b' t
  step (switching f on (Err e)) b' t = same_book _ b b' t.after old
  step (awarding f kw price (Ok a)) b' t = awarding_step f kw price a b' t
  step (awarding f kw price (Err e)) b' t = same_book _ b b' t.after old
  step (ceding a giver taker kw (Ok u)) b' t = ceding_step a giver taker kw u b' t
  step (ceding a giver taker kw (Err e)) b' t = same_book _ b b' t.after old
  step (cutting (Ok u)) b' t = cutting_step u b' t
  step (cutting (Err e)) b' t = same_book _ b b' t.after old
  step (reporting f x (Ok u)) b' t = reporting_step f x u b' t
  step (reporting f x (Err e)) b' t = same_book _ b b' t.after old
  step (advancing rule rows (Ok total) left) b' t = advancing_step rule rows total left b' t
  step (advancing rule rows (Err e) left) b' t = same_book _ b b' t.1.after old
  step (claiming f (Ok u)) b' t = same_book _ _ b' t.after (claims_simulate (acts j) b f claim.Open old)
  step (claiming f (Err e)) b' t = same_book _ b b' t.after old
  step (dismissing f (Ok u)) b' t = same_book _ _ b' t.after (claims_simulate (acts j) b f claim.Answered old)
  step (dismissing f (Err e)) b' t = same_book _ b b' t.after old
  step (upholding f x (Ok u)) b' t = upholding_step f x u b' t
  step (upholding f x (Err e)) b' t = same_book _ b b' t.after old
  step (closing rule rows (Ok total) left) b' t = closing_step rule rows total left b' t
  step (closing rule rows (Err e) left) b' t = same_book _ b b' t.1.after old

-- a ledger as it is made, and no acts
blank_simulates : Simulates [] blank
blank_simulates = record {
  calendar = refl;
  numbers = tt;
  trades = record {
    count = refl;
    kws = λ i l. absurd (omega (arith, l));
    prices = λ i l. absurd (omega (arith, l));
    held = λ i f l _. absurd (omega (arith, l));
    none_brought = λ a f _. refl;
    none_lost = λ a f _. refl;
  };
  registers = record {
    count = refl;
    firms = λ i. refl;
    switches = λ i. refl;
    off = λ f _. refl;
  };
  course = (refl, λ i. same_at 64 i None);
  lines = λ m f from to _ _. absurd (omega (arith, from, to));
  cut_offs = λ m from to. absurd (omega (arith, from, to));
  charges = tt;
  year = refl;
}

pub simulated : {j : Journal} {l : Ledger} → Recorded j l → Simulates (acts j) l.book
simulated (made l is) = subst (Simulates []) (sym is) blank_simulates
simulated (noted j e l after before allowed) = step l j (simulated before) e after.book allowed
