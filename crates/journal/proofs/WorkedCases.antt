-- The law allows none of the wrong cases, and leaves nothing open in the others.
use Rattle.std.proofs.Common.{◌≡◌, ℕ, ◌*◌, ◌≤◌, true, List, [], ◌∷◌, map, length, refl, sym, ap, ◌∙◌, subst, arith, lit≤, replicate}
use Rattle.std.specs.List.{range_with_len}
use Rattle.std.proofs.lemmas.Bool.{false≢true}
use Rattle.calendar.specs.Calendar.{Calendar}
use Rattle.calendar.specs.Filling.{given_year}
use Rattle.calendar.specs.Form.{IsInForm}
use Rattle.calendar.specs.Months.{first_months}
use Rattle.calendar.specs.Stress.{stress_hours}
use Rattle.metering.specs.Meaning.{ReportMeaning}
use Rattle.sharing.specs.declared.rows.Row.{Row}
use Rattle.sharing.specs.Rows.{mwhs, charged as put_in}
use Rattle.sharing.specs.Running.{running_meaning}
use Rattle.sharing.specs.Remainder.{remainder_meaning}
use Rattle.sharing.specs.Rule.{RuleMeaning, Lawful}
use Rattle.sharing.specs.RemainderLaws.{remainder_lawful}
use Rattle.ledger.specs.Lines.{booked_line}
use Rattle.journal.specs.Acts.{opened, switched, awarded, ceded, cut, reported, advanced, closed, acts}
use Rattle.journal.specs.Law.{facilities, line, Opened}
use Rattle.journal.specs.Worked.{buyers, february, advanced_february, journal, Says}
use Rattle.journal.specs.Cases.{start, won, idle_advance, idle_month, fixed, ChargeCases, NoBook, LawCases}
use Rattle.journal.proofs.Charging.{charged_lawfully}
use Rattle.journal.proofs.WorkedStages.{unopened_at, trading_at, metering_at, claims_at, nowhere}
use Rattle.journal.proofs.WorkedFigures.{total}

-- charges of 74 cents over three weights of 1 that a rule may make
thirds : Lawful 74 (replicate 3 1) (replicate 3 1) (25 ∷ 25 ∷ 24 ∷ [])
thirds = remainder_lawful 74 (replicate 3 1) (record { cents = omega arith; rows = omega arith; mwh = omega arith })

charge_cases : (c : Calendar) → Opened c (acts journal) → ChargeCases c
charge_cases c opens = record {
  lawful = charged_lawfully c (acts february) 2 (fixed (replicate 3 1) (25 ∷ 25 ∷ 24 ∷ [])) (buyers 0 0 0) 74 (buyers 25 25 24) (sym (total c opens)) refl (λ none. absurd (omega (arith, none))) thirds;
  weight_missing = λ bad. let long : 2 ≡ 3 = bad.weight_each in omega (arith, long);
  weight_too_many = λ bad. let long : 4 ≡ 3 = bad.weight_each in omega (arith, long);
  charge_missing = λ bad. let long : 3 ≡ 2 = ap length bad.its_charges in omega (arith, long);
  charge_too_many = λ bad. let long : 3 ≡ 4 = ap length bad.its_charges in omega (arith, long);
  cent_lost = λ bad. let all : 73 ≡ 74 = bad.adds_up in omega (arith, all);
  cent_made = λ bad. let all : 75 ≡ 74 = bad.adds_up in omega (arith, all);
  cent_away = λ bad. let first = bad.near (lit≤ tt) 0 (lit≤ tt) in omega (arith, first.not_under);
  cent_of_nothing = λ bad. let first : 1 ≡ 0 = bad.nothing refl 0 (lit≤ tt) in omega (arith, first);
}

new_year : Says [] (λ b. (b.calendar.year_hours ≡ 8_760) × (length (stress_hours b.calendar 1) ≡ 744))
unfolding first_months
new_year b holds = (ap (λ c. c.year_hours) holds.calendar, ap (λ c. length (stress_hours c 1)) holds.calendar)

-- the calendar of an opening is in form
in_form_of : (year : ℕ) (firsts lengths : List ℕ) → Says (opened year firsts lengths ∷ []) (λ b. IsInForm (given_year year firsts lengths))
in_form_of year firsts lengths b holds = subst IsInForm holds.calendar holds.formed

no_year : NoBook (opened 9_000 (0 ∷ []) (450 ∷ []) ∷ [])
no_year b holds = false≢true (in_form_of 9_000 (0 ∷ []) (450 ∷ []) b holds).year

too_many_runs : NoBook (opened 8_760 (map (λ i. 20 * i) (range_with_len 0 367)) (replicate 367 2) ∷ [])
too_many_runs b holds =
    let many : 367 ≤ 366 = (in_form_of 8_760 (map (λ i. 20 * i) (range_with_len 0 367)) (replicate 367 2) b holds).few in
    omega (arith, many)

touching : NoBook (opened 8_760 (0 ∷ 438 ∷ []) (438 ∷ 1 ∷ []) ∷ [])
touching b holds = false≢true ((in_form_of 8_760 (0 ∷ 438 ∷ []) (438 ∷ 1 ∷ []) b holds).formed 1 (lit≤ tt))

too_few_hours : NoBook (opened 8_760 (0 ∷ []) (437 ∷ []) ∷ [])
too_few_hours b holds = false≢true (in_form_of 8_760 (0 ∷ []) (437 ∷ []) b holds).share

kw_lost : NoBook (awarded 1 65 1_000 12 ∷ start)
unfolding facilities
kw_lost b holds = let all : 0 ≡ 1_000 = holds.whole 1 (lit≤ tt) (lit≤ tt) in omega (arith, all)

kw_made : NoBook (ceded 1 64 1 500 ∷ won)
unfolding facilities
kw_made b holds = let all : 1_500 ≡ 1_000 = holds.whole 1 (lit≤ tt) (lit≤ tt) in omega (arith, all)

above_firm : NoBook (awarded 2 1 1_001 12 ∷ won)
above_firm b holds = let all : 2_001 ≤ 2_000 = holds.within 1 (lit≤ tt) (lit≤ tt) in omega (arith, all)

cut_twice : NoBook (idle_month (switched 1 true ∷ cut ∷ start))
cut_twice b holds = omega (arith, ap length (holds.cut_offs 1 (lit≤ tt) (lit≤ tt)))

awarded_late : NoBook (awarded 1 1 1_000 12 ∷ idle_month start)
unfolding facilities
awarded_late b holds = let all : 0 ≡ 100 = holds.year in omega (arith, all)

lent : NoBook (ceded 1 1 2 500 ∷ idle_month (ceded 1 2 1 500 ∷ won))
unfolding facilities
lent b holds = let all : 150 ≡ 100 = holds.year in omega (arith, all)

-- rows that have a rule's charges for a total have those for the number that it is
settled : (rule : RuleMeaning) (rows : List Row) (sum is : ℕ) (left : List Row) → sum ≡ is → left ≡ put_in rows (rule.charges sum (mwhs rows)) → (sum ≡ is) × (left ≡ put_in rows (rule.charges is (mwhs rows)))
settled rule rows sum is left same put = (same, put ∙ ap (λ t. put_in rows (rule.charges t (mwhs rows))) same)

advance : (total : ℕ) (left : List Row) → Says (advanced running_meaning (buyers 33 33 34) total left ∷ acts february) (λ b. (total ≡ 74) × (left ≡ buyers 24 25 25))
advance sum left b holds =
    let now = holds.charges.0 in
    settled running_meaning (buyers 33 33 34) sum 74 left (now.rights_less_penalties ∙ total b.calendar holds.calendar) now.by_its_rule

closing : (total : ℕ) (left : List Row) → Says (closed remainder_meaning (buyers 33 33 34) total left ∷ acts advanced_february) (λ b. (total ≡ 74) × (left ≡ buyers 25 25 24))
closing sum left b holds =
    let now = holds.charges.0 in
    settled remainder_meaning (buyers 33 33 34) sum 74 left (now.rights_less_penalties ∙ total b.calendar holds.calendar) now.by_its_rule

loss : (x : ReportMeaning) (rule : RuleMeaning) (rows left : List Row) (total : ℕ) → Says (closed rule rows total left ∷ advanced rule rows total left ∷ reported 2 x ∷ acts february) (λ b. (booked_line b 2 2).penalty ≤ 50)
unfolding facilities
loss x rule rows left total b holds =
    let h = closed rule rows total left ∷ advanced rule rows total left ∷ reported 2 x ∷ acts february in
    let most : (line b.calendar h 2 2).penalty ≤ 50 = holds.bounded 2 2 in
    omega (arith, most, ap (λ l. l.penalty) (holds.lines 2 2 (lit≤ tt) (lit≤ tt) (lit≤ tt) (lit≤ tt)))

pub cases : LawCases
cases = record {
  new_year = new_year;
  unopened = λ b holds. unopened_at b.stage holds.stage;
  trading = λ b holds. trading_at b.stage start 0 (lit≤ tt) (lit≤ tt) refl refl holds.stage;
  metering = λ b holds. metering_at b.stage (cut ∷ start) 0 (lit≤ tt) refl refl refl holds.stage;
  claims = λ b holds. claims_at b.stage (idle_advance ∷ cut ∷ start) 0 (lit≤ tt) refl refl holds.stage;
  not_cut = λ b holds. nowhere b.stage holds.stage;
  no_year = no_year;
  too_many_runs = too_many_runs;
  touching = touching;
  too_few_hours = too_few_hours;
  cut_twice = cut_twice;
  next_facility = λ n b holds. holds.numbers.0;
  next_award = λ n b holds. holds.numbers.0;
  kw_lost = kw_lost;
  kw_made = kw_made;
  above_firm = above_firm;
  awarded_late = awarded_late;
  lent = lent;
  advance = advance;
  closing = closing;
  charges = λ b holds. charge_cases b.calendar holds.calendar;
  loss = loss;
}
