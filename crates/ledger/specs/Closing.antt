-- Closing a month: its refusals, and what it books. Serves src/closing.rt.
use Rattle.std.specs.Prelude.{◌≡◌, ℕ, ◌-◌, Bool, List, [], ◌∷◌, ◌++◌, slice_set}
use Rattle.std.specs.List.{list_any}
use Rattle.sharing.specs.declared.rows.Row.{Row}
use Rattle.sharing.specs.Rule.{RuleMeaning}
use Rattle.ledger.specs.declared.course.Call.TheVariants as call
use Rattle.ledger.specs.declared.refusal.Refusal.TheVariants as refusal
use Rattle.ledger.specs.declared.state.Filed.{Filed}
use Rattle.ledger.specs.declared.state.Line.{Line}
use Rattle.ledger.specs.declared.state.Stage.{Stage}
use Rattle.ledger.specs.declared.state.Book.{Book}
use Rattle.ledger.specs.Judged.{Rows, Answer, ruled, kept_or}
use Rattle.ledger.specs.Course.{course, moved}
use Rattle.ledger.specs.Form.{month_of}
use Rattle.ledger.specs.Making.{new_month}
use Rattle.ledger.specs.Claiming.{is_open}
use Rattle.ledger.specs.Booking.{month_lines}
use Rattle.ledger.specs.Settling.{limit_rows, total_now, shared_answer, charged_rows}

-- whether some claim waits for an answer
abbrev pub some_open : List Filed → Bool
some_open month = list_any (λ x. is_open x.claim) month

-- the refusals before those of the rows: of the stage, and of a claim that is still open
abbrev pub unsettled_rows : Book → Rows
unsettled_rows b = course call.Close b.stage ++ (some_open b.month, refusal.ClaimOpen) ∷ []

abbrev pub close_rows : Book → List Row → Rows
close_rows b rows = unsettled_rows b ++ limit_rows rows

-- the book with these lines for the month m, where the reports and claims end, at the stage s
abbrev pub booked_month : Book → ℕ → List Line → Stage → Book
booked_month b m ls s = record b { stage = s; month = new_month; lines = slice_set b.lines (m - 1) ls }

-- the month's lines are booked, its reports and claims end, and the next stage begins
abbrev pub closed : Book → Book
closed b = booked_month b (month_of b.stage) (month_lines b (month_of b.stage)) (moved call.Close b.stage)

-- A closing by a rule over rows, on the book b, answers r, the month's total where it is accepted, and leaves the book b'
-- and the rows `left`.
abbrev pub Closes : Book → RuleMeaning → List Row → Answer ℕ → Book → List Row → Type 0
Closes b rule rows r b' left = record {
  answer : r ≡ ruled (close_rows b rows) (shared_answer rule (total_now b) rows);
  after : b' ≡ kept_or r (closed b) b;
  rows : left ≡ kept_or r (charged_rows rule (total_now b) rows) rows;
}
