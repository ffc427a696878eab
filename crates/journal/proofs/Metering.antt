-- Cutting off, reporting, claiming and advancing: the book has what the journal says with that act on top.
use Rattle.std.proofs.Common.{◌≡◌, ℕ, ◌+◌, ◌-◌, ◌<◌, ◌≤◌, Bool, cond, eqb, ◌⊎◌, List, ◌∷◌, length, get_or, set, Some, None, Ok, Err, count_by, Option, unwrap_or, sym, refl, ap, ◌∙◌, subst, inl, inr, arith}
use Rattle.std.proofs.Math.Seq.{map-set_same}
use Rattle.std.proofs.lemmas.List.{get_or-set_same, get_or-set_other, length-map, map-set}
use Rattle.std.proofs.lemmas.Bool.{cases_eq, cond-true, cond-false, eq-eqb, ne_eqb}
use Rattle.calendar.specs.Calendar.{Calendar}
use Rattle.metering.specs.declared.measuring.Measured.{Measured}
use Rattle.metering.specs.Measuring.{measuring}
use Rattle.metering.specs.Meaning.{ReportMeaning}
use Rattle.sharing.specs.declared.rows.Row.{Row}
use Rattle.sharing.specs.Rule.{RuleMeaning}
use Rattle.ledger.specs.declared.course.Call.TheVariants as call
use Rattle.ledger.specs.declared.kept.Ledger.{Ledger}
use Rattle.ledger.specs.declared.state.Book.{Book}
use Rattle.ledger.specs.declared.state.Claim.{Claim}
use Rattle.ledger.specs.declared.state.Stage.{Stage}
use Rattle.ledger.specs.declared.state.Stage.TheVariants.{Month}
use Rattle.ledger.specs.declared.state.Phase.{Phase}
use Rattle.ledger.specs.declared.state.Phase.TheVariants.{Trading, Metering, Claims}
use Rattle.ledger.specs.Form.{nothing_filed, held_in_all, month_of}
use Rattle.ledger.specs.Course.{moved}
use Rattle.ledger.specs.Changes.{with_month}
use Rattle.ledger.specs.Claiming.{with_claim}
use Rattle.ledger.specs.Reporting.{measured_for, put_report}
use Rattle.ledger.specs.Booking.{unreported_in}
use Rattle.ledger.specs.Cutting as cutting
use Rattle.ledger.specs.Advancing as advancing
use Rattle.journal.specs.Acts.{Act, cut, reported, advanced, is_cut, is_advance, told, before, before_nth}
use Rattle.journal.specs.Law.{trade_by, standing, result, Charged}
use Rattle.journal.proofs.LatestActs.{one_more}
use Rattle.journal.proofs.Alike.{trade_is}
use Rattle.journal.proofs.Simulation.{Unreported, ResultsBy, CutOff, CourseBy, Simulates, reports}

-- what the reports that stand come to, where one more does
results_more : (h : List Act) (c : Calendar) (ms : List (Option Measured)) (m f : ℕ) (x : ReportMeaning) (v : Measured) → 0 < f → f ≤ 64 → length ms ≡ 64 → result c m (held_in_all (trade_by (before is_cut h)) (f - 1)) (Some x) ≡ v → ResultsBy h c ms m → ResultsBy (reported f x ∷ h) c (set ms (f - 1) (Some v)) m
results_more h c ms m f x v from to long came old i inside =
    let kw = held_in_all (trade_by (before is_cut h)) in
    let tells : Bool → Measured = λ t. result c m (kw i) (told (cond t (Some x) None) (standing h (i + 1))) in
    elim (cases_eq i (f - 1)) [
      | inl is ↦
          ap (λ o. unwrap_or o (unreported_in c m)) (ap (λ y. get_or (set ms (f - 1) (Some v)) y None) is ∙ get_or-set_same ms (f - 1) (Some v) None (omega (arith, from, to, long)))
          ∙ sym came ∙ ap (λ y. result c m (kw y) (Some x)) (sym is) ∙ sym (ap tells (eq-eqb (i + 1) f (omega (arith, is, from))))
      | inr other ↦
          ap (λ o. unwrap_or o (unreported_in c m)) (get_or-set_other ms (f - 1) i (Some v) None other)
          ∙ old i inside ∙ sym (ap tells (ne_eqb (i + 1) f (λ same. other (omega (arith, same)))))
    ]

-- where a cut-off is known of one more report
cut_off_more : (h : List Act) (c : Calendar) (ms : List (Option Measured)) (m f : ℕ) (x : ReportMeaning) (v : Measured) → 0 < f → f ≤ 64 → length ms ≡ 64 → result c m (held_in_all (trade_by (before is_cut h)) (f - 1)) (Some x) ≡ v → CutOff h c ms m → CutOff (reported f x ∷ h) c (set ms (f - 1) (Some v)) m
cut_off_more h c ms m f x v from to long came old = record {
  trade = old.trade;
  switches = old.switches;
  nth = old.nth;
  results = results_more h c ms m f x v from to long came old.results;
}

-- no line reads the claims
pub claims_simulate : (h : List Act) (b : Book) (f : ℕ) (x : Claim) → Simulates h b → Simulates h (with_claim b f x)
claims_simulate h b f x old = record {
  calendar = old.calendar;
  numbers = old.numbers;
  trades = old.trades;
  registers = old.registers;
  course = subst (λ ms. CourseBy h b.calendar ms b.stage) (sym (map-set_same (λ y. y.measured) b.month (f - 1) _ nothing_filed refl)) old.course;
  lines = old.lines;
  cut_offs = old.cut_offs;
  charges = old.charges;
  year = old.year;
}

module _ (l : Ledger) (h : List Act) (old : Simulates h l.book) where
  abbrev b : Book
  b = l.book

  abbrev At : Stage → Type 0
  At = CourseBy h b.calendar (reports b.month)

  -- nothing that a line reads has changed at the cut-off itself
  cut_now : (m : ℕ) → m ≡ count_by is_cut h + 1 → Unreported (reports b.month) → CutOff (cut ∷ h) b.calendar (reports b.month) m
  cut_now m is none = record {
    trade = refl;
    switches = λ f. refl;
    nth = sym (cond-true (eqb m (count_by is_cut h + 1)) h (before_nth is_cut m h) (eq-eqb m (count_by is_cut h + 1) is));
    results = λ i _. ap (λ o. unwrap_or o (unreported_in b.calendar m)) (none i);
  }

  pub cut_simulates : (m : ℕ) → b.stage ≡ Month m Trading → Simulates (cut ∷ h) (cutting.cut b)
  cut_simulates m is =
      let now = subst At is old.course in
      record {
        calendar = old.calendar;
        numbers = old.numbers;
        trades = old.trades;
        registers = old.registers;
        course = subst (λ s. CourseBy (cut ∷ h) b.calendar (reports b.month) (moved call.CutOff s)) (sym is) (now.0, one_more is_cut cut h refl ∙ ap (λ x. x + 1) now.1, now.2, cut_now m (now.0 ∙ ap (λ x. x + 1) (sym now.1)) now.4);
        lines = old.lines;
        cut_offs = λ k from to. old.cut_offs k from to ∙ sym (cond-false (eqb k (count_by is_cut h + 1)) h (before_nth is_cut k h) (ne_eqb k (count_by is_cut h + 1) (λ same. omega (arith, same, to, now.1))));
        charges = old.charges;
        year = old.year;
      }

  -- what a report comes to under the kW held at the cut-off is what it came to when it was taken
  came_to : (m f : ℕ) (x : ReportMeaning) (v : Measured) → month_of b.stage ≡ m → CutOff h b.calendar (reports b.month) m → measured_for b f x ≡ Ok v → result b.calendar m (held_in_all (trade_by (before is_cut h)) (f - 1)) (Some x) ≡ v
  came_to m f x v is z taken =
      let t = b.trade in
      let same : held_in_all t (f - 1) ≡ held_in_all (trade_by (before is_cut h)) (f - 1) =
      ap (λ u. held_in_all u (f - 1)) (trade_is h t old.trades l.wide ∙ z.trade) in
      let measures : ℕ → ℕ → _ = λ n k. measuring x b.calendar n k in
      ap (λ r. elim r [ Ok w ↦ w | Err e ↦ unreported_in b.calendar m ]) (ap (measures m) (sym same) ∙ ap (λ n. measures n (held_in_all t (f - 1))) (sym is) ∙ taken)

  -- the course with one more report in a month that is cut off
  reported_course : (f : ℕ) (x : ReportMeaning) (v : Measured) (m : ℕ) (q : Phase) → (q ≡ Metering) ⊎ (q ≡ Claims) → b.stage ≡ Month m q → 0 < f → f ≤ 64 → measured_for b f x ≡ Ok v → CourseBy (reported f x ∷ h) b.calendar (set (reports b.month) (f - 1) (Some v)) b.stage
  reported_course f x v m q after is from to taken =
      let more : CutOff h b.calendar (reports b.month) m → CutOff (reported f x ∷ h) b.calendar (set (reports b.month) (f - 1) (Some v)) m = λ z. cut_off_more h b.calendar (reports b.month) m f x v from to (length-map b.month (λ y. y.measured) ∙ l.shaped.0) (came_to m f x v (ap month_of is) z taken) z in
      let next : Stage → Type 0 = CourseBy (reported f x ∷ h) b.calendar (set (reports b.month) (f - 1) (Some v)) in
      elim after [
        | inl metering ↦
            (let at = is ∙ ap (Month m) metering in
            let now = subst At at old.course in
            subst next (sym at) (now.0, now.1, now.2, more now.3))
        | inr claims ↦
            (let at = is ∙ ap (Month m) claims in
            let now = subst At at old.course in
            subst next (sym at) (now.0, now.1, now.2, more now.3))
      ]

  -- a report is taken, or comes with an upheld claim
  pub reported_simulates : (f : ℕ) (x : ReportMeaning) (v : Measured) (m : ℕ) (q : Phase) → (q ≡ Metering) ⊎ (q ≡ Claims) → b.stage ≡ Month m q → 0 < f → f ≤ length b.register.items → measured_for b f x ≡ Ok v → Simulates (reported f x ∷ h) (with_month b (put_report b.month f v))
  reported_simulates f x v m q after is from to taken = record {
    calendar = old.calendar;
    numbers = old.numbers;
    trades = old.trades;
    registers = old.registers;
    course = subst (λ ms. CourseBy (reported f x ∷ h) b.calendar ms b.stage) (sym (map-set (λ y. y.measured) b.month (f - 1) _)) (reported_course f x v m q after is from (omega (arith, to, l.sized.0)) taken);
    lines = old.lines;
    cut_offs = old.cut_offs;
    charges = old.charges;
    year = old.year;
  }

  pub advanced_simulates : (rule : RuleMeaning) (rows : List Row) (total : ℕ) (left : List Row) (m : ℕ) → b.stage ≡ Month m Metering → (CutOff h b.calendar (reports b.month) m → Charged b.calendar h m rule rows total left) → Simulates (advanced rule rows total left ∷ h) (advancing.advanced b)
  advanced_simulates rule rows total left m is charged =
      let act = advanced rule rows total left in
      let now = subst At is old.course in
      let kept : CutOff (act ∷ h) b.calendar (reports b.month) m = record { trade = now.3.trade; switches = now.3.switches; nth = now.3.nth; results = now.3.results } in
      record {
        calendar = old.calendar;
        numbers = old.numbers;
        trades = old.trades;
        registers = old.registers;
        course = subst (λ s. CourseBy (act ∷ h) b.calendar (reports b.month) (moved call.Advance s)) (sym is) (now.0, now.1, one_more is_advance act h refl ∙ ap (λ x. x + 1) now.2, kept);
        lines = old.lines;
        cut_offs = old.cut_offs;
        charges = (subst (λ k. Charged b.calendar h k rule rows total left) now.0 (charged now.3), old.charges);
        year = old.year;
      }
