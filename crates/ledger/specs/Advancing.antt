-- The advance: its refusals, and the stage that it leads to. Serves src/advancing.rt.
use Rattle.std.specs.Prelude.{ℕ, ◌≡◌, List, ◌++◌}
use Rattle.sharing.specs.declared.rows.Row.{Row}
use Rattle.sharing.specs.Rule.{RuleMeaning}
use Rattle.ledger.specs.declared.course.Call.TheVariants as call
use Rattle.ledger.specs.declared.state.Book.{Book}
use Rattle.ledger.specs.Judged.{Rows, Answer, ruled, kept_or}
use Rattle.ledger.specs.Course.{course, moved}
use Rattle.ledger.specs.Changes.{with_stage}
use Rattle.ledger.specs.Settling.{limit_rows, total_now, shared_answer, charged_rows}

abbrev pub advance_rows : Book → List Row → Rows
advance_rows b rows = course call.Advance b.stage ++ limit_rows rows

-- the month moves on to claims, and nothing is booked
abbrev pub advanced : Book → Book
advanced b = with_stage b (moved call.Advance b.stage)

-- An advance by a rule over rows, on the book b, answers r, the month's total where it is accepted, and leaves the book b'
-- and the rows `left`.
abbrev pub Advances : Book → RuleMeaning → List Row → Answer ℕ → Book → List Row → Type 0
Advances b rule rows r b' left = record {
  answer : r ≡ ruled (advance_rows b rows) (shared_answer rule (total_now b) rows);
  after : b' ≡ kept_or r (advanced b) b;
  rows : left ≡ kept_or r (charged_rows rule (total_now b) rows) rows;
}
