-- What the advance and the closing share: the limits of the rows, and the sharing of the month's total. Serves
-- src/settling.rt.
use Rattle.std.specs.Prelude.{ℕ, Bool, cond, not, ◌&&◌, List, [], ◌∷◌, length, Ok, Err, sum, Result, ◌==◌, nat_le, nat_lt}
use Rattle.sharing.specs.declared.rows.Row.{Row}
use Rattle.sharing.specs.declared.fault.SharingFault.TheVariants.{NoWeight}
use Rattle.sharing.specs.Rows.{mwhs, charged}
use Rattle.sharing.specs.Rule.{RuleMeaning}
use Rattle.ledger.specs.declared.refusal.Refusal.TheVariants as refusal
use Rattle.ledger.specs.declared.fault.LedgerFault.{LedgerFault}
use Rattle.ledger.specs.declared.fault.LedgerFault.TheVariants as fault
use Rattle.ledger.specs.declared.state.Book.{Book}
use Rattle.ledger.specs.Judged.{Rows}
use Rattle.ledger.specs.Form.{month_of}
use Rattle.ledger.specs.Booking.{month_total}

-- at most 1,024 rows, with at most 40,000,000 MWh in all
abbrev pub rows_within : List Row → Bool
rows_within rows = nat_le (length rows) 1_024 && nat_le (sum (mwhs rows)) 40_000_000

abbrev pub limit_rows : List Row → Rows
limit_rows rows = (not (rows_within rows), refusal.RowsOutOfLimits) ∷ []

-- the total of the month under way
abbrev pub total_now : Book → ℕ
total_now b = month_total b (month_of b.stage)

-- the total c is answered, unless there is one and the rule's weights add up to nothing
abbrev pub shared_answer : RuleMeaning → ℕ → List Row → Result ℕ LedgerFault
shared_answer rule c rows = cond (sum (rule.weights c (mwhs rows)) == 0 && nat_lt 0 c) (Err (fault.Sharing NoWeight)) (Ok c)

-- the rows with the rule's charges for the total c
abbrev pub charged_rows : RuleMeaning → ℕ → List Row → List Row
charged_rows rule c rows = charged rows (rule.charges c (mwhs rows))
