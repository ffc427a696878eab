-- Cases of the law: acts and charges that are wrong in one thing, which it does not allow, and acts in which one thing is
-- not given, of which it says what that is. Serves src/worked.rt.
use Rattle.std.specs.Prelude.{◌≡◌, ℕ, ◌*◌, ◌≤◌, true, List, [], ◌∷◌, map, length, replicate}
use Rattle.std.specs.List.{range_with_len}
use Rattle.calendar.specs.Calendar.{Calendar}
use Rattle.calendar.specs.Stress.{stress_hours}
use Rattle.metering.specs.Meaning.{ReportMeaning}
use Rattle.sharing.specs.declared.rows.Row.{Row}
use Rattle.sharing.specs.Rows.{charged as put_in}
use Rattle.sharing.specs.Rule.{RuleMeaning}
use Rattle.sharing.specs.Running.{running_meaning}
use Rattle.sharing.specs.Remainder.{remainder_meaning}
use Rattle.ledger.specs.declared.state.Stage.TheVariants.{Unopened, Month}
use Rattle.ledger.specs.declared.state.Phase.TheVariants.{Trading, Metering, Claims}
use Rattle.ledger.specs.Lines.{booked_line}
use Rattle.journal.specs.Acts.{Act, opened, registered, switched, awarded, ceded, cut, reported, advanced, closed, acts}
use Rattle.journal.specs.Law.{Charged}
use Rattle.journal.specs.Worked.{buyer, buyers, february, advanced_february, Says}

-- two facilities are registered, and both are off
abbrev pub start : List Act
start = registered 2 84 2_000 ∷ registered 1 84 2_000 ∷ opened 8_760 (1_415 ∷ []) (438 ∷ []) ∷ []

-- and the first wins an award
abbrev pub won : List Act
won = awarded 1 1 1_000 12 ∷ start

-- a month's advance, where nothing is to be charged, and its whole end from the cut-off on
abbrev pub idle_advance : Act
idle_advance = advanced running_meaning (buyers 0 0 0) 0 (buyers 0 0 0)

abbrev pub idle_month : List Act → List Act
idle_month h = closed running_meaning (buyers 0 0 0) 0 (buyers 0 0 0) ∷ idle_advance ∷ cut ∷ h

-- the law allows these acts of no book
abbrev pub NoBook : List Act → Type 0
NoBook h = Says h (λ b. ⊥)

-- a rule that has these weights and these charges, whatever it shares
abbrev pub fixed : List ℕ → List ℕ → RuleMeaning
fixed ws cs = record { weights = λ total ms. ws; charges = λ total ms. cs }

-- February's 74 cents are charged to these rows, by these weights and charges
abbrev pub FebruaryCharged : Calendar → List Row → List ℕ → List ℕ → Type 0
FebruaryCharged c rows ws cs = Charged c (acts february) 2 (fixed ws cs) rows 74 (put_in rows cs)

-- Charges that are lawful, and charges that are wrong in one thing.
pub record ChargeCases (c : Calendar) : Type 0 where
  pub lawful : FebruaryCharged c (buyers 0 0 0) (replicate 3 1) (25 ∷ 25 ∷ 24 ∷ [])
  pub weight_missing : ¬ FebruaryCharged c (buyers 0 0 0) (1 ∷ 1 ∷ []) (37 ∷ 37 ∷ 0 ∷ [])
  pub weight_too_many : ¬ FebruaryCharged c (buyers 0 0 0) (1 ∷ 1 ∷ 1 ∷ 0 ∷ []) (25 ∷ 25 ∷ 24 ∷ [])
  -- the last row would keep the charge that it had
  pub charge_missing : ¬ FebruaryCharged c (buyers 0 0 24) (replicate 3 1) (25 ∷ 25 ∷ [])
  pub charge_too_many : ¬ FebruaryCharged c (buyers 0 0 0) (replicate 3 1) (25 ∷ 25 ∷ 24 ∷ 0 ∷ [])
  pub cent_lost : ¬ FebruaryCharged c (buyers 0 0 0) (replicate 3 1) (24 ∷ 24 ∷ 25 ∷ [])
  pub cent_made : ¬ FebruaryCharged c (buyers 0 0 0) (replicate 3 1) (25 ∷ 25 ∷ 25 ∷ [])
  -- exactly one cent from the exact shares, 37 each
  pub cent_away : ¬ FebruaryCharged c (buyers 0 0 0) (1 ∷ 1 ∷ 0 ∷ []) (36 ∷ 38 ∷ 0 ∷ [])
  -- a cent to each of 74 rows, where nothing weighs
  pub cent_of_nothing : ¬ FebruaryCharged c (replicate 74 (buyer 1 0)) (replicate 74 0) (replicate 74 1)

-- Acts that the law allows of no book, and what it says of a book where one thing is not given.
pub record LawCases : Type 0 where
  -- the calendar before the opening; the stage before it and at each point of a month; an advance without a cut-off
  pub new_year : Says [] (λ b. (b.calendar.year_hours ≡ 8_760) × (length (stress_hours b.calendar 1) ≡ 744))
  pub unopened : Says [] (λ b. b.stage ≡ Unopened)
  pub trading : Says start (λ b. b.stage ≡ Month 1 Trading)
  pub metering : Says (cut ∷ start) (λ b. b.stage ≡ Month 1 Metering)
  pub claims : Says (idle_advance ∷ cut ∷ start) (λ b. b.stage ≡ Month 1 Claims)
  pub not_cut : NoBook (idle_advance ∷ start)
  -- openings with a year of 9,000 hours, with 367 runs, with runs that touch, and with an hour too few
  pub no_year : NoBook (opened 9_000 (0 ∷ []) (450 ∷ []) ∷ [])
  pub too_many_runs : NoBook (opened 8_760 (map (λ i. 20 * i) (range_with_len 0 367)) (replicate 367 2) ∷ [])
  pub touching : NoBook (opened 8_760 (0 ∷ 438 ∷ []) (438 ∷ 1 ∷ []) ∷ [])
  pub too_few_hours : NoBook (opened 8_760 (0 ∷ []) (437 ∷ []) ∷ [])
  -- two cut-offs in one month
  pub cut_twice : NoBook (idle_month (switched 1 true ∷ cut ∷ start))
  -- each number is the next
  pub next_facility : (n : ℕ) → Says (registered n 84 2_000 ∷ start) (λ b. n ≡ 3)
  pub next_award : (n : ℕ) → Says (awarded n 1 1_000 12 ∷ start) (λ b. n ≡ 1)
  -- kW that go to no facility, and kW out of nothing
  pub kw_lost : NoBook (awarded 1 65 1_000 12 ∷ start)
  pub kw_made : NoBook (ceded 1 64 1 500 ∷ won)
  -- one kW above the firm power, over two awards
  pub above_firm : NoBook (awarded 2 1 1_001 12 ∷ won)
  -- an award that comes after the month in which it earns, and kW out of nothing that are given back after a month
  pub awarded_late : NoBook (awarded 1 1 1_000 12 ∷ idle_month start)
  pub lent : NoBook (ceded 1 1 2 500 ∷ idle_month (ceded 1 2 1 500 ∷ won))
  -- what an advance and a closing of February answer, and the rows that they leave
  pub advance : (total : ℕ) (left : List Row)
      → Says (advanced running_meaning (buyers 33 33 34) total left ∷ acts february)
      (λ b. (total ≡ 74) × (left ≡ buyers 24 25 25))
  pub closing : (total : ℕ) (left : List Row)
      → Says (closed remainder_meaning (buyers 33 33 34) total left ∷ acts advanced_february)
      (λ b. (total ≡ 74) × (left ≡ buyers 25 25 24))
  pub charges : Says (acts february) (λ b. ChargeCases b.calendar)
  -- facility 2 loses at most its 50 cents of February, whatever it reports last
  pub loss : (x : ReportMeaning) (rule : RuleMeaning) (rows left : List Row) (total : ℕ)
      → Says (closed rule rows total left ∷ advanced rule rows total left ∷ reported 2 x ∷ acts february)
      (λ b. (booked_line b 2 2).penalty ≤ 50)
