-- Upholding a claim with a new report. Serves src/upholding.rt.
use Rattle.std.specs.Prelude.{ℕ, cond, Ok, Err, Result}
use Rattle.metering.specs.Meaning.{ReportMeaning}
use Rattle.metering.specs.declared.fault.MeteringFault.{MeteringFault}
use Rattle.metering.specs.declared.measuring.Measured.{Measured}
use Rattle.ledger.specs.declared.course.Call.TheVariants as call
use Rattle.ledger.specs.declared.refusal.Refusal.TheVariants as refusal
use Rattle.ledger.specs.declared.fault.LedgerFault.{LedgerFault}
use Rattle.ledger.specs.declared.fault.LedgerFault.TheVariants as fault
use Rattle.ledger.specs.declared.state.Claim.{Claim}
use Rattle.ledger.specs.declared.state.Claim.TheVariants as claim
use Rattle.ledger.specs.declared.state.Book.{Book}
use Rattle.ledger.specs.Judged.{Answer, Does}
use Rattle.ledger.specs.Claiming.{claim_of, is_open, with_claim}
use Rattle.ledger.specs.Reporting.{letter_rows, measured_for, with_measured}

-- a report that is refused comes before a claim that is not open
abbrev pub upheld_by : Result Measured MeteringFault → Claim → Result (Unit {0}) LedgerFault
upheld_by (Err e) x = Err (fault.Metering e)
upheld_by (Ok m) x = cond (is_open x) (Ok tt) (Err (fault.Own refusal.NoClaim))

-- the new report stands, and the claim is answered
abbrev pub upheld : Book → ℕ → Result Measured MeteringFault → Book
upheld b f m = with_claim (with_measured b f m) f claim.Answered

-- upholding a claim by the report x, on the book b, answers r and leaves the book b'
abbrev pub Upholds : Book → ℕ → ReportMeaning → Answer (Unit {0}) → Book → Type 0
Upholds b f x r b' =
    Does (letter_rows call.Answer b f x.letter) (upheld_by (measured_for b f x) (claim_of b f))
    (upheld b f (measured_for b f x)) b r b'
