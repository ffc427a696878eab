-- Opening: what it answers, and the year that it begins. Serves src/opening.rt.
use Rattle.std.specs.Prelude.{ℕ, List, Ok, Err, Result}
use Rattle.calendar.specs.declared.fault.CalendarFault.{CalendarFault}
use Rattle.calendar.specs.Filling.{fill_rows, given_year}
use Rattle.ledger.specs.declared.course.Call.TheVariants as call
use Rattle.ledger.specs.declared.fault.LedgerFault.{LedgerFault}
use Rattle.ledger.specs.declared.fault.LedgerFault.TheVariants as fault
use Rattle.ledger.specs.declared.state.Book.{Book}
use Rattle.ledger.specs.Judged.{judged, Answer, Does}
use Rattle.ledger.specs.Course.{course, moved}
use Rattle.ledger.specs.Changes.{with_calendar, with_stage}

-- a calendar that was filled is taken; a fault of the calendar is carried whole
abbrev pub fill_answer : Result (Unit {0}) CalendarFault → Result (Unit {0}) LedgerFault
fill_answer (Ok _) = Ok tt
fill_answer (Err f) = Err (fault.Calendar f)

-- what opening a year answers, unless the ledger was opened before
abbrev pub year_answer : ℕ → List ℕ → List ℕ → Result (Unit {0}) LedgerFault
year_answer year firsts lengths = fill_answer (judged (fill_rows year firsts lengths) tt)

-- the calendar is of the year that was given, and month 1 is in trading
abbrev pub opened : Book → ℕ → List ℕ → List ℕ → Book
opened b year firsts lengths = with_stage (with_calendar b (given_year year firsts lengths)) (moved call.Open b.stage)

-- an opening on the book b answers r and leaves the book b'
abbrev pub Opens : Book → ℕ → List ℕ → List ℕ → Answer (Unit {0}) → Book → Type 0
Opens b year firsts lengths r b' =
    Does (course call.Open b.stage) (year_answer year firsts lengths) (opened b year firsts lengths) b r b'
