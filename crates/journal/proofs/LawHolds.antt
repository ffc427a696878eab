-- The law of the journal holds of every ledger and every journal recorded of it.
use Rattle.std.proofs.Common.{◌≡◌, ℕ, ◌+◌, ◌-◌, ◌<◌, ◌≤◌, List, length, Ok, sum_by, sum, count_by, Option, sym, ap, ◌∙◌, subst, arith}
use mathlib.Core.Path.{fun_ext}
use Rattle.std.specs.List.{range_with_len}
use Rattle.std.proofs.lemmas.List.Sums.{sum-map}
use Rattle.std.proofs.lemmas.List.FromFn.{get_or-map-range_with_len}
use Rattle.calendar.specs.Calendar.{Calendar}
use Rattle.metering.specs.declared.measuring.Measured.{Measured}
use Rattle.ledger.specs.declared.kept.Ledger.{Ledger}
use Rattle.ledger.specs.declared.state.Book.{Book}
use Rattle.ledger.specs.declared.state.Stage.{Stage}
use Rattle.ledger.specs.declared.state.Stage.TheVariants.{Unopened, Month, Finished}
use Rattle.ledger.specs.declared.state.Phase.TheVariants.{Trading, Metering, Claims}
use Rattle.ledger.specs.Form.{award_at, held_under, held_in_all}
use Rattle.ledger.specs.Judged.{ruled}
use Rattle.ledger.specs.Lines.{closed_months, line_rows, booked_line}
use Rattle.ledger.specs.Readings.{holding_at}
use Rattle.ledger.specs.Entries.{Journal}
use Rattle.ledger.specs.Runs.{Recorded}
use Rattle.ledger.proofs.CountingSums.{sum_by-map}
use Rattle.journal.specs.Acts.{Act, acts, is_award, is_registering, is_closing, brought, lost}
use Rattle.journal.specs.Law.{facilities, held, terms, firm, on, award_by, line, Staged, Holds, Law}
use Rattle.journal.proofs.Bounded.{line_bounded}
use Rattle.journal.proofs.Balance.{balance}
use Rattle.journal.proofs.BookReadings.{read_line}
use Rattle.journal.proofs.Alike.{holdings_by, trade_is}
use Rattle.journal.proofs.Simulation.{Course, CourseBy, Simulates, reports}
use Rattle.journal.proofs.Theorem.{simulated}

-- the stage says how many months are closed
months_closed : (s : Stage) (n k a : ℕ) (none unreported : Type 0) (cut_off : ℕ → Type 0) → (none → 0 ≡ n) → Course s n k a none unreported cut_off → closed_months s ≡ n
months_closed Unopened n k a none unreported cut_off start now = start now.0
months_closed (Month m Trading) n k a none unreported cut_off start now = omega (arith, now.0)
months_closed (Month m Metering) n k a none unreported cut_off start now = omega (arith, now.0)
months_closed (Month m Claims) n k a none unreported cut_off start now = omega (arith, now.0)
months_closed Finished n k a none unreported cut_off start now = sym now

-- the stage is that of the course
staged : (s : Stage) (h : List Act) (c : Calendar) (ms : List (Option Measured)) → CourseBy h c ms s → Staged s h
staged Unopened h c ms now = now.0
staged (Month m Trading) h c ms now = (now.3, now.0, now.1, now.2)
staged (Month m Metering) h c ms now = (now.0, now.1 ∙ sym now.0, now.2)
staged (Month m Claims) h c ms now = (now.0, now.1 ∙ sym now.0, now.2 ∙ sym now.0)
staged Finished h c ms now = now

module _ (h : List Act) (l : Ledger) (says : Simulates h l.book) where
  abbrev b : Book
  b = l.book

  months : closed_months b.stage ≡ count_by is_closing h
  months = months_closed b.stage _ _ _ _ _ _ (λ none. ap (count_by is_closing) (sym none)) says.course

  -- reading a line of a closed month is not refused
  reading_holds : (m f : ℕ) → 1 ≤ m → m ≤ count_by is_closing h → 1 ≤ f → f ≤ count_by is_registering h → ruled (line_rows b m f) (Ok (booked_line b m f)) ≡ Ok (line b.calendar h m f)
  reading_holds m f from to first last =
      read_line b m f from (omega (arith, to, months)) first (omega (arith, last, says.registers.count))
      ∙ ap Ok (says.lines m f from to first (omega (arith, last, says.registers.count, l.sized.0)))

  held_hold : (a f : ℕ) → 1 ≤ a → a ≤ count_by is_award h → 1 ≤ f → f ≤ 64 → held_under (f - 1) (award_at b.trade (a - 1)) + sum_by (lost a f) h ≡ sum_by (brought a f) h
  held_hold a f from to first last =
      let award : a - 1 + 1 ≡ a = omega (arith, from) in
      let facility : f - 1 + 1 ≡ f = omega (arith, first) in
      subst (λ x. held_under (f - 1) (award_at b.trade (a - 1)) + sum_by (lost x f) h ≡ sum_by (brought x f) h) award (subst (λ y. held_under (f - 1) (award_at b.trade (a - 1)) + sum_by (lost (a - 1 + 1) y) h ≡ sum_by (brought (a - 1 + 1) y) h) facility (says.trades.held (a - 1) (f - 1) (omega (arith, from, to)) (omega (arith, first, last))))

  holdings_hold : (a f : ℕ) → 1 ≤ a → a ≤ count_by is_award h → 1 ≤ f → f ≤ count_by is_registering h → holding_at b a f + sum_by (lost a f) h ≡ sum_by (brought a f) h
  holdings_hold a f from to first last =
      held_hold a f from to first (omega (arith, last, says.registers.count, l.sized.0))

  whole_holds : (a : ℕ) → 1 ≤ a → a ≤ count_by is_award h → sum_by (held h a) facilities ≡ (terms h a).0
  whole_holds a from to =
      let award : a - 1 + 1 ≡ a = omega (arith, from) in
      let given : a - 1 < length b.trade.items = omega (arith, from, to, says.trades.count) in
      subst (λ x. sum_by (held h x) facilities ≡ (terms h x).0) award (
      sym (sum-map (held h (a - 1 + 1)) facilities) ∙ ap sum (sym (holdings_by h b.trade says.trades l.wide (a - 1) given)) ∙ l.whole (a - 1) given ∙ says.trades.kws (a - 1) (omega (arith, from, to))
      )

  -- what the facility f holds over all awards, by the journal
  held_in_all_by : (f : ℕ) → 1 ≤ f → f ≤ 64 → held_in_all b.trade (f - 1) ≡ sum_by (λ a. held h a f) (range_with_len 1 (count_by is_award h))
  unfolding facilities
  held_in_all_by f first last =
      let n = count_by is_award h in
      let each : (a : ℕ) → held_under (f - 1) (award_by h a) ≡ held h a f = λ a. get_or-map-range_with_len (held h a) 1 64 (f - 1) f 0 (omega (arith, first, last)) (omega (arith, first)) in
      ap (λ t. held_in_all t (f - 1)) (trade_is h b.trade says.trades l.wide)
      ∙ sum_by-map (held_under (f - 1)) (award_by h) (range_with_len 1 n)
      ∙ ap (λ g. sum_by g (range_with_len 1 n)) (fun_ext each)

  within_holds : (f : ℕ) → 1 ≤ f → f ≤ 64 → sum_by (λ a. held h a f) (range_with_len 1 (count_by is_award h)) ≤ firm h f
  within_holds f first last =
      let facility : f - 1 + 1 ≡ f = omega (arith, first) in
      let power = says.registers.firms (f - 1) ∙ ap (firm h) facility in
      omega (arith, held_in_all_by f first last, power, l.within (f - 1))

  holds : Holds h b
  holds = record {
    calendar = says.calendar;
    formed = l.formed;
    stage = staged b.stage h b.calendar (reports b.month) says.course;
    numbers = says.numbers;
    facility_numbers = says.registers.count;
    award_numbers = says.trades.count;
    firms = λ f first last. says.registers.firms (f - 1) ∙ ap (firm h) (omega (arith, first));
    switches = λ f first last. says.registers.switches (f - 1) ∙ ap (on h) (omega (arith, first));
    holdings = holdings_hold;
    whole = whole_holds;
    within = within_holds;
    months = months;
    reading = reading_holds;
    lines = says.lines;
    cut_offs = says.cut_offs;
    charges = says.charges;
    bounded = line_bounded b.calendar h;
    year = says.year;
    balance = balance b.calendar h says.charges;
  }

pub law : (j : Journal) (l : Ledger) → Recorded j l → Law j l
law j l recorded = holds (acts j) l (simulated recorded)
