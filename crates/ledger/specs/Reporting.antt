-- Reporting: its refusals, and the measured result that it keeps. Serves src/reporting.rt.
use Rattle.std.specs.Prelude.{ℕ, ◌-◌, not, List, [], ◌∷◌, ◌++◌, length, Some, Ok, Err, Result, ◌==◌, slice_set}
use Rattle.metering.specs.declared.fault.MeteringFault.{MeteringFault}
use Rattle.metering.specs.declared.measuring.Measured.{Measured}
use Rattle.metering.specs.Meaning.{ReportMeaning}
use Rattle.metering.specs.Measuring.{measuring}
use Rattle.ledger.specs.declared.course.Call.{Call}
use Rattle.ledger.specs.declared.course.Call.TheVariants as call
use Rattle.ledger.specs.declared.refusal.Refusal.TheVariants as refusal
use Rattle.ledger.specs.declared.fault.LedgerFault.{LedgerFault}
use Rattle.ledger.specs.declared.fault.LedgerFault.TheVariants as fault
use Rattle.ledger.specs.declared.state.Filed.{Filed}
use Rattle.ledger.specs.declared.state.Book.{Book}
use Rattle.ledger.specs.Judged.{Rows, given_out, Answer, Does}
use Rattle.ledger.specs.Course.{course}
use Rattle.ledger.specs.Form.{Register, facility_at, filed_at, held_in_all, month_of}
use Rattle.ledger.specs.Changes.{with_month}

-- the facility f was given out, and has this letter
abbrev pub own_letter : Register → ℕ → ℕ → Rows
own_letter r f letter =
    (not (given_out f (length r.items)), refusal.NoFacility)
    ∷ (not (letter == (facility_at r (f - 1)).letter), refusal.OtherLetter) ∷ []

-- the refusals of a call that brings a report, up to the report itself: its letter is the facility's
abbrev pub letter_rows : Call → Book → ℕ → ℕ → Rows
letter_rows c b f letter = course c b.stage ++ own_letter b.register f letter

-- what the report of the facility f comes to in the month under way, under the kW that it holds
abbrev pub measured_for : Book → ℕ → ReportMeaning → Result Measured MeteringFault
measured_for b f x = measuring x b.calendar (month_of b.stage) (held_in_all b.trade (f - 1))

-- a report that was measured is taken; a fault of metering is carried whole
abbrev pub taken : Result Measured MeteringFault → Result (Unit {0}) LedgerFault
taken (Ok m) = Ok tt
taken (Err e) = Err (fault.Metering e)

-- the month with what the report of the facility f came to, in place of any that it has
abbrev pub put_report : List Filed → ℕ → Measured → List Filed
put_report m f x = slice_set m (f - 1) (record (filed_at m (f - 1)) { measured = Some x })

-- the book with what the facility's report came to
abbrev pub with_measured : Book → ℕ → Result Measured MeteringFault → Book
with_measured b f (Ok m) = with_month b (put_report b.month f m)
with_measured b f (Err e) = b

-- a report x on the book b answers r and leaves the book b'
abbrev pub Reports : Book → ℕ → ReportMeaning → Answer (Unit {0}) → Book → Type 0
Reports b f x r b' =
    Does (letter_rows call.Report b f x.letter) (taken (measured_for b f x)) (with_measured b f (measured_for b f x)) b r b'
