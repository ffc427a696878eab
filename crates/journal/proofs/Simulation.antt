-- What a book has is what the acts of its journal say of it, part by part.
use Rattle.std.proofs.Common.{◌≡◌, ℕ, ◌+◌, ◌-◌, ◌<◌, ◌≤◌, List, [], map, get_or, None, sum_by, count_by, Option, unwrap_or}
use Rattle.std.specs.List.{range_with_len}
use Rattle.calendar.specs.Calendar.{Calendar}
use Rattle.metering.specs.declared.measuring.Measured.{Measured}
use Rattle.ledger.specs.declared.state.Book.{Book}
use Rattle.ledger.specs.declared.state.Filed.{Filed}
use Rattle.ledger.specs.declared.state.Line.{Line}
use Rattle.ledger.specs.declared.state.Stage.{Stage}
use Rattle.ledger.specs.declared.state.Stage.TheVariants.{Unopened, Month, Finished}
use Rattle.ledger.specs.declared.state.Phase.TheVariants.{Trading, Metering, Claims}
use Rattle.ledger.specs.Form.{Register, held_in_all}
use Rattle.ledger.specs.Booking.{unreported_in}
use Rattle.journal.specs.Acts.{Act, is_registering, is_cut, is_advance, is_closing, before, before_nth}
use Rattle.journal.specs.Law.{trade_by, firm, on, standing, result, line, all_lines, earned_by, Charges, Numbered, Opened}
use Rattle.journal.proofs.Registers.{Registers}
use Rattle.journal.proofs.Alike.{TradesBy}

-- what a register has, by the acts of a journal
abbrev pub RegistersBy : List Act → Register → Type 0
RegistersBy h r = Registers (count_by is_registering h) (firm h) (on h) r

-- the reports of a month
abbrev pub reports : List Filed → List (Option Measured)
reports month = map (λ x. x.measured) month

-- no report has come in
abbrev pub Unreported : List (Option Measured) → Type 0
Unreported ms = (i : ℕ) → get_or ms i None ≡ None

-- what the reports came to is what those that stand come to
abbrev pub ResultsBy : List Act → Calendar → List (Option Measured) → ℕ → Type 0
ResultsBy h c ms m = (i : ℕ) → i < 64 → unwrap_or (get_or ms i None) (unreported_in c m) ≡ result c m (held_in_all (trade_by (before is_cut h)) i) (standing h (i + 1))

-- in month m, since its cut_off, nothing that a line reads has changed, and the reports are those that stand
pub record CutOff (h : List Act) (c : Calendar) (ms : List (Option Measured)) (m : ℕ) : Type 0 where
  pub trade : trade_by h ≡ trade_by (before is_cut h)
  pub switches : (f : ℕ) → on h f ≡ on (before is_cut h) f
  pub nth : before is_cut h ≡ before_nth is_cut m h
  pub results : ResultsBy h c ms m

-- A stage, with n closings, k cut-offs and a advances: before the opening there are no acts, in trading there are some, and
-- no reports.
abbrev pub Course : Stage → ℕ → ℕ → ℕ → Type 0 → Type 0 → (ℕ → Type 0) → Type 0
Course Unopened n k a none unreported cut_off = none × unreported
Course (Month m Trading) n k a none unreported cut_off = (m ≡ n + 1) × (k ≡ n) × (a ≡ n) × (¬ none) × unreported
Course (Month m Metering) n k a none unreported cut_off = (m ≡ n + 1) × (k ≡ n + 1) × (a ≡ n) × cut_off m
Course (Month m Claims) n k a none unreported cut_off = (m ≡ n + 1) × (k ≡ n + 1) × (a ≡ n + 1) × cut_off m
Course Finished n k a none unreported cut_off = n ≡ 12

-- the course that the acts of a journal have taken
abbrev pub CourseBy : List Act → Calendar → List (Option Measured) → Stage → Type 0
CourseBy h c ms s = Course s (count_by is_closing h) (count_by is_cut h) (count_by is_advance h) (h ≡ []) (Unreported ms) (CutOff h c ms)

-- the lines of n closed months
abbrev pub LinesBy : List Act → Calendar → List (List Line) → ℕ → Type 0
LinesBy h c ls n = (m f : ℕ) → 1 ≤ m → m ≤ n → 1 ≤ f → f ≤ 64 → get_or (get_or ls (m - 1) []) (f - 1) (record { right = 0; penalty = 0 }) ≡ line c h m f

-- the cut_off before the closing of each of n closed months is that month's
abbrev pub CutOffs : List Act → ℕ → Type 0
CutOffs h n = (m : ℕ) → 1 ≤ m → m ≤ n → before is_cut (before_nth is_closing m h) ≡ before_nth is_cut m h

-- the rights of n closed months are what all awards have earned
abbrev pub YearBy : List Act → Calendar → ℕ → Type 0
YearBy h c n = sum_by (all_lines (λ l. l.right) c h) (range_with_len 1 n) ≡ earned_by h n

pub record Simulates (h : List Act) (b : Book) : Type 0 where
  pub calendar : Opened b.calendar h
  pub numbers : Numbered h
  pub trades : TradesBy h b.trade
  pub registers : RegistersBy h b.register
  pub course : CourseBy h b.calendar (reports b.month) b.stage
  pub lines : LinesBy h b.calendar b.lines (count_by is_closing h)
  pub cut_offs : CutOffs h (count_by is_closing h)
  pub charges : Charges b.calendar h
  pub year : YearBy h b.calendar (count_by is_closing h)
