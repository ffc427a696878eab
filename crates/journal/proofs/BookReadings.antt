-- What reading a line answers for a facility that was given out and a month that is closed.
use Rattle.std.proofs.Common.{◌≡◌, ℕ, ◌≤◌, Bool, true, false, not, leb, [], ◌∷◌, length, Ok, Err, Result, refl, ◌∙◌, arith}
use Rattle.std.proofs.lemmas.Bool.{and_from, cond-false, le-leb, not_from_true}
use Rattle.ledger.specs.declared.refusal.Refusal.{Refusal}
use Rattle.ledger.specs.declared.refusal.Refusal.TheVariants as refusal
use Rattle.ledger.specs.declared.fault.LedgerFault.{LedgerFault}
use Rattle.ledger.specs.declared.fault.LedgerFault.TheVariants as fault
use Rattle.ledger.specs.declared.state.Stage.{Stage}
use Rattle.ledger.specs.declared.state.Stage.TheVariants.{Unopened, Month, Finished}
use Rattle.ledger.specs.declared.state.Line.{Line}
use Rattle.ledger.specs.declared.state.Book.{Book}
use Rattle.ledger.specs.Judged.{Rows, ruled, given_out}
use Rattle.ledger.specs.Course.{unopened}
use Rattle.ledger.specs.Lines.{closed_months, line_rows, booked_line}

given : (n count : ℕ) → 1 ≤ n → n ≤ count → given_out n count ≡ true
given n count from to = and_from (leb 1 n) (leb n count) (le-leb 1 n from) (le-leb n count to)

-- where a month is closed, the year was opened
opened_then : (s : Stage) → 1 ≤ closed_months s → unopened s ≡ false
opened_then Unopened some = absurd (omega (arith, some))
opened_then (Month m p) some = refl
opened_then Finished some = refl

-- a row that does not apply is passed over
row_over : (t : Bool) (e : Refusal) (rows : Rows) (answer : Result Line LedgerFault) → t ≡ false → ruled ((t, e) ∷ rows) answer ≡ ruled rows answer
row_over t e rows answer no-case = cond-false t (Err (fault.Own e)) (ruled rows answer) no-case

-- reading the line of a closed month and a facility given out answers what is booked
pub read_line : (b : Book) (m f : ℕ) → 1 ≤ m → m ≤ closed_months b.stage → 1 ≤ f → f ≤ length b.register.items → ruled (line_rows b m f) (Ok (booked_line b m f)) ≡ Ok (booked_line b m f)
read_line b m f from to first last =
    let answer : Result Line LedgerFault = Ok (booked_line b m f) in
    let facility = not (given_out f (length b.register.items)) in
    let month = not (given_out m (closed_months b.stage)) in
    row_over (unopened b.stage) refusal.NotOpened ((facility, refusal.NoFacility) ∷ (month, refusal.NotClosed) ∷ []) answer (opened_then b.stage (omega (arith, from, to)))
    ∙ row_over facility refusal.NoFacility ((month, refusal.NotClosed) ∷ []) answer (not_from_true (given_out f (length b.register.items)) (given f (length b.register.items) first last))
    ∙ row_over month refusal.NotClosed [] answer (not_from_true (given_out m (closed_months b.stage)) (given m (closed_months b.stage) from to))
