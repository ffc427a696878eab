-- Opening, registering, switching, awarding and ceding: the book has what the journal says with that act on top.
use Rattle.std.proofs.Common.{◌≡◌, ℕ, ◌+◌, ◌<◌, ◌≤◌, Bool, true, false, eqb, List, [], ◌∷◌, length, count_by, sym, refl, ap, ◌∙◌, subst, arith}
use Rattle.std.proofs.lemmas.List.Sums.{sum_by-cons}
use Rattle.std.proofs.lemmas.Bool.{false≢true}
use Rattle.calendar.specs.Calendar.{Calendar}
use Rattle.calendar.specs.Filling.{given_year}
use Rattle.ledger.specs.declared.course.Call.TheVariants as call
use Rattle.ledger.specs.declared.kept.Ledger.{Ledger}
use Rattle.ledger.specs.declared.state.Book.{Book}
use Rattle.ledger.specs.declared.state.Stage.{Stage}
use Rattle.ledger.specs.declared.state.Stage.TheVariants.{Unopened, Month, Finished}
use Rattle.ledger.specs.declared.state.Phase.TheVariants.{Trading, Metering, Claims}
use Rattle.ledger.specs.Form.{Register, Trade}
use Rattle.ledger.specs.Course.{unopened, belongs, moved}
use Rattle.ledger.specs.Amounts.{earned}
use Rattle.ledger.specs.Opening as opening
use Rattle.ledger.specs.Registering as registering
use Rattle.ledger.specs.Switching as switching
use Rattle.ledger.specs.Awarding as awarding
use Rattle.ledger.specs.Ceding as ceding
use Rattle.ledger.proofs.AmountLaws.{months_add_up}
use Rattle.ledger.proofs.CountingSums.{sum_by-counting_shift, sum_by-counting_le}
use Rattle.ledger.proofs.Traded.{Awardable, Cedable}
use Rattle.journal.specs.Acts.{Act, opened, registered, switched, awarded, ceded, is_award, is_registering, latest, terms_of, firm_of, switch_of, brought, lost}
use Rattle.journal.specs.Law.{terms, firm, on}
use Rattle.journal.proofs.LatestActs.{told_figure, one_more}
use Rattle.journal.proofs.Registers.{Registers, registered_registers, switched_registers}
use Rattle.journal.proofs.Trading.{Trades, awarded_trades, ceded_trades}
use Rattle.journal.proofs.Alike.{TradesBy}
use Rattle.journal.proofs.Simulation.{RegistersBy, Course, YearBy, Simulates, CourseBy, reports}

-- the same register by readings that tell the same
registers_alike : (n n' : ℕ) (firm firm' : ℕ → ℕ) (on on' : ℕ → Bool) (r : Register) → n ≡ n' → ((f : ℕ) → firm f ≡ firm' f) → ((f : ℕ) → on f ≡ on' f) → Registers n firm on r → Registers n' firm' on' r
registers_alike n n' firm firm' on on' r counts firms switches old = record {
  count = old.count ∙ counts;
  firms = λ i. old.firms i ∙ firms (i + 1);
  switches = λ i. old.switches i ∙ switches (i + 1);
  off = λ f more. sym (switches f) ∙ old.off f more;
}

-- the same trade by readings that tell the same
trades_alike : (n n' : ℕ) (kw kw' price price' : ℕ → ℕ) (brought brought' lost lost' : ℕ → ℕ → ℕ) (t : Trade) → n ≡ n' → ((a : ℕ) → kw a ≡ kw' a) → ((a : ℕ) → price a ≡ price' a) → ((a f : ℕ) → brought a f ≡ brought' a f) → ((a f : ℕ) → lost a f ≡ lost' a f) → Trades n kw price brought lost t → Trades n' kw' price' brought' lost' t
trades_alike n n' kw kw' price price' brought brought' lost lost' t counts kws prices in-same out-same old = record {
  count = old.count ∙ counts;
  kws = λ i l. old.kws i (omega (arith, l, counts)) ∙ kws (i + 1);
  prices = λ i l. old.prices i (omega (arith, l, counts)) ∙ prices (i + 1);
  held = λ i f l inside. omega (arith, old.held i f (omega (arith, l, counts)) inside, in-same (i + 1) (f + 1), out-same (i + 1) (f + 1));
  none_brought = λ a f more. sym (in-same a f) ∙ old.none_brought a f (omega (arith, more, counts));
  none_lost = λ a f more. sym (out-same a f) ∙ old.none_lost a f (omega (arith, more, counts));
}

-- before any closing nothing is earned
pub year_none : (h : List Act) (c : Calendar) (n : ℕ) → n ≡ 0 → YearBy h c n
year_none h c n none =
    let start : (k p : ℕ) → earned k p 0 ≡ 0 = λ k p. sym (months_add_up k p 0) in
    let nothing = sum_by-counting_le (λ i. earned (terms h (i + 1)).0 (terms h (i + 1)).1 0) 0 (count_by is_award h) (λ i _. omega (arith, start (terms h (i + 1)).0 (terms h (i + 1)).1)) in
    let shifted = sum_by-counting_shift (λ a. earned (terms h a).0 (terms h a).1 0) (count_by is_award h) in
    subst (λ x. YearBy h c x) (sym none) (omega (arith, nothing, shifted))

-- a ledger that is not opened
stage_unopened : (s : Stage) → unopened s ≡ true → s ≡ Unopened
stage_unopened Unopened is = refl
stage_unopened (Month m p) is = absurd (false≢true is)
stage_unopened Finished is = absurd (false≢true is)

-- with an act on top there are some
pub some_acts : (x : Act) (h : List Act) → ¬ (x ∷ h ≡ [])
some_acts x h none = cc

-- registering leaves a phase of a month as it is
in_any_phase : (s : Stage) (n k a : ℕ) (none none' unreported : Type 0) (cut_off cut-off' : ℕ → Type 0) → belongs call.Register s ≡ true → ¬ none' → ((m : ℕ) → cut_off m → cut-off' m) → Course s n k a none unreported cut_off → Course s n k a none' unreported cut-off'
in_any_phase Unopened n k a none none' unreported cut_off cut-off' in_turn some keeps old = absurd (false≢true in_turn)
in_any_phase (Month m Trading) n k a none none' unreported cut_off cut-off' in_turn some keeps old = (old.0, old.1, old.2, some, old.4)
in_any_phase (Month m Metering) n k a none none' unreported cut_off cut-off' in_turn some keeps old = (old.0, old.1, old.2, keeps m old.3)
in_any_phase (Month m Claims) n k a none none' unreported cut_off cut-off' in_turn some keeps old = (old.0, old.1, old.2, keeps m old.3)
in_any_phase Finished n k a none none' unreported cut_off cut-off' in_turn some keeps old = absurd (false≢true in_turn)

module _ (l : Ledger) (h : List Act) (old : Simulates h l.book) where
  abbrev b : Book
  b = l.book

  -- the course of the journal, at the stage that the book is known to be at
  abbrev At : Stage → Type 0
  At = CourseBy h b.calendar (reports b.month)

  pub opened_simulates : (year : ℕ) (firsts lengths : List ℕ) → unopened b.stage ≡ true → Simulates (opened year firsts lengths ∷ h) (opening.opened b year firsts lengths)
  opened_simulates year firsts lengths not_yet =
      let is = stage_unopened b.stage not_yet in
      let start = subst At is old.course in
      subst (λ x. TradesBy x b.trade → RegistersBy x b.register → Simulates (opened year firsts lengths ∷ x) (opening.opened b year firsts lengths)) (sym start.0) (λ trades registers. record {
        calendar = refl;
        numbers = tt;
        trades = trades;
        registers = registers;
        course = subst (λ s. CourseBy (opened year firsts lengths ∷ []) (given_year year firsts lengths) (reports b.month) (moved call.Open s)) (sym is) (refl, refl, refl, some_acts _ _, start.1);
        lines = λ m f from to _ _. absurd (omega (arith, from, to));
        cut_offs = λ m from to. absurd (omega (arith, from, to));
        charges = tt;
        year = refl;
      }) old.trades old.registers

  pub registered_simulates : (letter power : ℕ) → belongs call.Register b.stage ≡ true → Simulates (registered (length b.register.items + 1) letter power ∷ h) (registering.registered b letter power)
  registered_simulates letter power in_turn =
      let n = length b.register.items + 1 in
      let act = registered n letter power in
      record {
        calendar = old.calendar;
        numbers = (ap (λ x. x + 1) old.registers.count, old.numbers);
        trades = old.trades;
        registers = registers_alike _ _ _ _ _ _ _ (sym (one_more is_registering act h refl)) (λ f. sym (told_figure (λ x. x) (eqb f n) power (latest (firm_of f) h) 0)) (λ f. refl) (registered_registers _ _ _ b old.registers letter power);
        course = in_any_phase b.stage _ _ _ _ _ _ _ _ in_turn (some_acts _ _) (λ m z. record { trade = z.trade; switches = z.switches; nth = z.nth; results = z.results }) old.course;
        lines = old.lines;
        cut_offs = old.cut_offs;
        charges = old.charges;
        year = old.year;
      }

  pub switched_simulates : (f : ℕ) (v : Bool) (m : ℕ) → b.stage ≡ Month m Trading → 0 < f → f ≤ length b.register.items → Simulates (switched f v ∷ h) (switching.switched b f v)
  switched_simulates f v m is from to =
      let act = switched f v in
      let now = subst At is old.course in
      record {
        calendar = old.calendar;
        numbers = old.numbers;
        trades = old.trades;
        registers = registers_alike _ _ _ _ _ _ _ refl (λ g. refl) (λ g. sym (told_figure (λ x. x) (eqb g f) v (latest (switch_of g) h) false)) (switched_registers _ _ _ b old.registers f v from to);
        course = subst (CourseBy (act ∷ h) b.calendar (reports b.month)) (sym is) (now.0, now.1, now.2, some_acts act h, now.4);
        lines = old.lines;
        cut_offs = old.cut_offs;
        charges = old.charges;
        year = old.year;
      }

  pub awarded_simulates : (f kw price : ℕ) → b.stage ≡ Month 1 Trading → Awardable b f kw price → Simulates (awarded (length b.trade.items + 1) f kw price ∷ h) (awarding.awarded b f kw price)
  awarded_simulates f kw price is ok =
      let n = count_by is_award h in
      let number : length b.trade.items + 1 ≡ n + 1 = ap (λ x. x + 1) old.trades.count in
      let now = subst At is old.course in
      subst (λ a. Simulates (awarded a f kw price ∷ h) (awarding.awarded b f kw price)) (sym number) (
      let act = awarded (n + 1) f kw price in
      let made = awarded_trades _ _ _ _ _ b f kw price ok l.sized.0 old.trades in
      record {
        calendar = old.calendar;
        numbers = (refl, old.numbers);
        trades = trades_alike _ _ _ _ _ _ _ _ _ _ _ (sym (one_more is_award act h refl)) (λ a. sym (told_figure (λ x. x.0) (eqb a (n + 1)) (kw, price) (latest (terms_of a) h) (0, 0))) (λ a. sym (told_figure (λ x. x.1) (eqb a (n + 1)) (kw, price) (latest (terms_of a) h) (0, 0))) (λ a g. sym (sum_by-cons (brought a g) act h)) (λ a g. refl) made;
        registers = old.registers;
        course = subst (CourseBy (act ∷ h) b.calendar (reports b.month)) (sym is) (now.0, now.1, now.2, some_acts act h, now.4);
        lines = old.lines;
        cut_offs = old.cut_offs;
        charges = old.charges;
        year = year_none (act ∷ h) b.calendar _ (omega (arith, now.0));
      })

  pub ceded_simulates : (a giver taker kw m : ℕ) → b.stage ≡ Month m Trading → Cedable b a giver taker kw → Simulates (ceded a giver taker kw ∷ h) (ceding.ceded b a giver taker kw)
  ceded_simulates a giver taker kw m is ok =
      let act = ceded a giver taker kw in
      let now = subst At is old.course in
      let moved-kw = ceded_trades _ _ _ _ _ b a giver taker kw ok l.sized.0 l.wide old.trades in
      record {
        calendar = old.calendar;
        numbers = old.numbers;
        trades = trades_alike _ _ _ _ _ _ _ _ _ _ _ refl (λ x. refl) (λ x. refl) (λ x g. sym (sum_by-cons (brought x g) act h)) (λ x g. sym (sum_by-cons (lost x g) act h)) moved-kw;
        registers = old.registers;
        course = subst (CourseBy (act ∷ h) b.calendar (reports b.month)) (sym is) (now.0, now.1, now.2, some_acts act h, now.4);
        lines = old.lines;
        cut_offs = old.cut_offs;
        charges = old.charges;
        year = old.year;
      }
