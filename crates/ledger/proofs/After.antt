-- The ledger that an accepted call leaves: its book keeps what every book keeps.
use Rattle.std.proofs.Common.{◌≡◌, ℕ, ◌-◌, ◌<◌, ◌≤◌, Bool, false, List, length, refl, ◌∙◌, arith, lit≤}
use Rattle.std.proofs.lemmas.List.{length-set, length_push}
use Rattle.calendar.specs.Calendar.{Calendar}
use Rattle.calendar.specs.Form.{IsInForm}
use Rattle.ledger.specs.declared.kept.Ledger.{Ledger}
use Rattle.ledger.specs.declared.state.Book.{Book}
use Rattle.ledger.specs.declared.state.Filed.{Filed}
use Rattle.ledger.specs.declared.state.Stage.{Stage}
use Rattle.ledger.specs.Form.{no_facility, facility_at, award_at, month_of, Dated, Bounded}
use Rattle.ledger.specs.Changes.{with_stage, with_calendar, with_month}
use Rattle.ledger.specs.Registering.{registered}
use Rattle.ledger.specs.Switching.{set_on, switched}
use Rattle.ledger.specs.Awarding.{new_award, awarded}
use Rattle.ledger.specs.Ceding.{with_held, shifted, ceded}
use Rattle.ledger.specs.Booking.{line_at, month_lines}
use Rattle.ledger.specs.Closing.{closed}
use Rattle.ledger.proofs.Keeping.{Kept}
use Rattle.ledger.proofs.Places.{each_set}
use Rattle.ledger.proofs.Registered.{registered_firm, registered_within}
use Rattle.ledger.proofs.MonthBounds.{month_right_bounded}
use Rattle.ledger.proofs.BookingLaws.{line_within, lines_all}
use Rattle.ledger.proofs.Settled.{closed_dated, length-month_lines, booked_lined, booked_bounded}
use Rattle.ledger.proofs.Traded.{Awardable, Cedable, awarded_wide, awarded_within, awarded_whole, awarded_priced, ceded_wide, ceded_within, ceded_whole, ceded_priced}

-- the ledger of a book that keeps what every book keeps
abbrev pub ledger_of : (b : Book) → Kept b → Ledger
ledger_of b k = record {
  book = b;
  formed = k.formed;
  sized = k.sized;
  shaped = k.shaped;
  wide = k.wide;
  lined = k.lined;
  booked = k.booked;
  firm = k.firm;
  within = k.within;
  whole = k.whole;
  priced = k.priced;
  dated = k.dated;
}

module _ (l : Ledger) where
  abbrev b : Book
  b = l.book

  -- another stage, of a month of the year
  pub staged_kept : (s : Stage) → Dated (month_of s) → Kept (with_stage b s)
  staged_kept s dated = record {
    formed = l.formed;
    sized = l.sized;
    shaped = l.shaped;
    wide = l.wide;
    lined = l.lined;
    booked = l.booked;
    firm = l.firm;
    within = l.within;
    whole = l.whole;
    priced = l.priced;
    dated = dated;
  }

  -- another calendar, in form
  pub filled_kept : (c : Calendar) (s : Stage) → IsInForm c → Dated (month_of s) → Kept (with_stage (with_calendar b c) s)
  filled_kept c s formed dated = record {
    formed = formed;
    sized = l.sized;
    shaped = l.shaped;
    wide = l.wide;
    lined = l.lined;
    booked = l.booked;
    firm = l.firm;
    within = l.within;
    whole = l.whole;
    priced = l.priced;
    dated = dated;
  }

  -- other reports and claims of the month
  pub month_kept : (month : List Filed) → length month ≡ 64 → Kept (with_month b month)
  month_kept month long = record {
    formed = l.formed;
    sized = l.sized;
    shaped = (long, l.shaped.1);
    wide = l.wide;
    lined = l.lined;
    booked = l.booked;
    firm = l.firm;
    within = l.within;
    whole = l.whole;
    priced = l.priced;
    dated = l.dated;
  }

  pub registered_kept : (letter power : ℕ) → length b.register.items < 64 → power ≤ 1_000_000 → Kept (registered b letter power)
  registered_kept letter power room few = record {
    formed = l.formed;
    sized = (omega (arith, room, length_push b.register.items (record { letter = letter; firm = power; on = false })), l.sized.1);
    shaped = l.shaped;
    wide = l.wide;
    lined = l.lined;
    booked = l.booked;
    firm = registered_firm b letter power few l.firm;
    within = registered_within b letter power l.within;
    whole = l.whole;
    priced = l.priced;
    dated = l.dated;
  }

  -- switching leaves each facility's firm power
  switched_firm : (f : ℕ) (on : Bool) → f - 1 < length b.register.items → (i : ℕ) → (facility_at (switched b f on).register i).firm ≡ (facility_at b.register i).firm
  switched_firm f on inside =
      each_set (λ i x. x.firm ≡ (facility_at b.register i).firm) b.register.items (f - 1) (set_on (facility_at b.register (f - 1)) on) no_facility inside refl (λ j _. refl)

  pub switched_kept : (f : ℕ) (on : Bool) → f - 1 < length b.register.items → Kept (switched b f on)
  switched_kept f on inside =
      let same = switched_firm f on inside in
      record {
        formed = l.formed;
        sized = (omega (arith, l.sized.0, length-set b.register.items (f - 1) (set_on (facility_at b.register (f - 1)) on)), l.sized.1);
        shaped = l.shaped;
        wide = l.wide;
        lined = l.lined;
        booked = l.booked;
        firm = λ i. omega (arith, same i, l.firm i);
        within = λ i. omega (arith, same i, l.within i);
        whole = l.whole;
        priced = l.priced;
        dated = l.dated;
      }

  pub awarded_kept : (f kw price : ℕ) → Awardable b f kw price → Kept (awarded b f kw price)
  awarded_kept f kw price ok = record {
    formed = l.formed;
    sized = (l.sized.0, omega (arith, ok.room, length_push b.trade.items (new_award f kw price)));
    shaped = l.shaped;
    wide = awarded_wide b f kw price ok l.wide;
    lined = l.lined;
    booked = l.booked;
    firm = l.firm;
    within = awarded_within b f kw price ok l.sized.0 l.within;
    whole = awarded_whole b f kw price ok l.sized.0 l.whole;
    priced = awarded_priced b f kw price ok l.priced;
    dated = l.dated;
  }

  pub ceded_kept : (a giver taker kw : ℕ) → Cedable b a giver taker kw → Kept (ceded b a giver taker kw)
  ceded_kept a giver taker kw ok =
      let old = award_at b.trade (a - 1) in
      record {
        formed = l.formed;
        sized = (l.sized.0, omega (arith, l.sized.1, length-set b.trade.items (a - 1) (with_held old (shifted old.held (giver - 1) (taker - 1) kw))));
        shaped = l.shaped;
        wide = ceded_wide b a giver taker kw ok l.sized.0 l.wide;
        lined = l.lined;
        booked = l.booked;
        firm = l.firm;
        within = ceded_within b a giver taker kw ok l.sized.0 l.wide l.within;
        whole = ceded_whole b a giver taker kw ok l.sized.0 l.wide l.whole;
        priced = ceded_priced b a giver taker kw ok l.sized.0 l.wide l.priced;
        dated = l.dated;
      }

  -- the lines of a month have their bounds
  pub lines_bounded : (m f : ℕ) → Bounded (line_at (month_lines b m) f)
  lines_bounded m =
      lines_all Bounded b m (λ f inside. (month_right_bounded b.trade m f l.sized.1 l.wide l.priced l.whole inside (omega (arith, l.within f, l.firm f)), line_within b m f)) (lit≤ tt, lit≤ tt)

  pub closed_kept : Kept (closed b)
  closed_kept =
      let m = month_of b.stage in
      let inside : m - 1 < length b.lines = omega (arith, l.shaped.1, l.dated.0, l.dated.1) in
      record {
        formed = l.formed;
        sized = l.sized;
        shaped = (refl, length-set b.lines (m - 1) (month_lines b m) ∙ l.shaped.1);
        wide = l.wide;
        lined = booked_lined b (m - 1) (month_lines b m) inside (length-month_lines b m) l.lined;
        booked = booked_bounded b (m - 1) (month_lines b m) inside (lines_bounded m) l.booked;
        firm = l.firm;
        within = l.within;
        whole = l.whole;
        priced = l.priced;
        dated = closed_dated b.stage l.dated;
      }
