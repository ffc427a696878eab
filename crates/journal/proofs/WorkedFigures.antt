-- What the words of the law say of the worked run, computed, and what the law makes of them.
use Rattle.std.proofs.Common.{◌≡◌, ◌+◌, ◌-◌, [], ◌∷◌, length, Ok, sum_by, refl, ap, ◌∙◌, arith, lit≤}
use Rattle.calendar.specs.Calendar.{Calendar}
use Rattle.calendar.specs.Months.{first_months}
use Rattle.calendar.specs.Stress.{stress_hours}
use Rattle.ledger.specs.Booking.{rights_in, penalties_in}
use Rattle.journal.specs.Acts.{acts, charged_by}
use Rattle.journal.specs.Law.{facilities, held, firm, line, lines_then, earned_by, all_months, Opened}
use Rattle.journal.specs.Worked.{february, journal, line_with, Figures, Says}
use Rattle.journal.proofs.WorkedStages.{trading_at}

pub first_firm : firm (acts journal) 1 ≡ 2_000
first_firm = refl

pub first_held : held (acts journal) 1 1 ≡ 500
first_held = refl

pub second_held : held (acts journal) 1 2 ≡ 500
second_held = refl

pub earned : earned_by (acts journal) 2 ≡ 200
earned = refl

pub all_charged : sum_by charged_by (acts journal) ≡ 174
all_charged = refl

-- by the calendar of the opening
module _ (c : Calendar) (opens : Opened c (acts journal)) where
  february_stress : stress_hours c 2 ≡ 1_415 ∷ []
  unfolding first_months
  february_stress = ap (λ x. stress_hours x 2) opens

  march_stress : length (stress_hours c 3) ≡ 437
  unfolding first_months
  march_stress = ap (λ x. length (stress_hours x 3)) opens

  pub first_january : line c (acts journal) 1 1 ≡ line_with 100 0
  unfolding facilities first_months
  first_january = ap (λ x. line x (acts journal) 1 1) opens

  pub second_january : line c (acts journal) 1 2 ≡ line_with 0 0
  unfolding facilities first_months
  second_january = ap (λ x. line x (acts journal) 1 2) opens

  pub first_february : line c (acts journal) 2 1 ≡ line_with 50 0
  unfolding facilities first_months
  first_february = ap (λ x. line x (acts journal) 2 1) opens

  pub second_february : line c (acts journal) 2 2 ≡ line_with 50 26
  unfolding facilities first_months
  second_february = ap (λ x. line x (acts journal) 2 2) opens

  last_february : line c (acts journal) 2 64 ≡ line_with 0 0
  unfolding facilities first_months
  last_february = ap (λ x. line x (acts journal) 2 64) opens

  -- what the lines of February leave to be charged
  pub total : rights_in (lines_then c (acts february) 2) - penalties_in (lines_then c (acts february) 2) ≡ 74
  unfolding facilities first_months
  total = ap (λ x. rights_in (lines_then x (acts february) 2) - penalties_in (lines_then x (acts february) 2)) opens

all_penalties : Says (acts journal) (λ b. all_months (λ l. l.penalty) b.calendar (acts journal) ≡ 26)
unfolding facilities
all_penalties b holds =
    let all : 200 ≡ all_months (λ l. l.penalty) b.calendar (acts journal) + 174 = holds.balance in
    omega (arith, all)

pub figures : Says (acts journal) Figures
figures b holds = record {
  stage = trading_at b.stage (acts journal) 2 (lit≤ tt) (lit≤ tt) refl refl holds.stage;
  february_stress = february_stress b.calendar holds.calendar;
  march_stress = march_stress b.calendar holds.calendar;
  registered = holds.facility_numbers;
  awarded = holds.award_numbers;
  closed = holds.months;
  second_firm = holds.firms 2 (lit≤ tt) (lit≤ tt);
  last_firm = holds.firms 64 (lit≤ tt) (lit≤ tt);
  second_on = holds.switches 2 (lit≤ tt) (lit≤ tt);
  last_off = holds.switches 64 (lit≤ tt) (lit≤ tt);
  first_holds = omega (arith, holds.holdings 1 1 (lit≤ tt) (lit≤ tt) (lit≤ tt) (lit≤ tt));
  second_holds = omega (arith, holds.holdings 1 2 (lit≤ tt) (lit≤ tt) (lit≤ tt) (lit≤ tt));
  january_read = holds.reading 1 1 (lit≤ tt) (lit≤ tt) (lit≤ tt) (lit≤ tt) ∙ ap Ok (first_january b.calendar holds.calendar);
  february_read = holds.reading 2 2 (lit≤ tt) (lit≤ tt) (lit≤ tt) (lit≤ tt) ∙ ap Ok (second_february b.calendar holds.calendar);
  february_line = holds.lines 2 2 (lit≤ tt) (lit≤ tt) (lit≤ tt) (lit≤ tt) ∙ second_february b.calendar holds.calendar;
  last_line = holds.lines 2 64 (lit≤ tt) (lit≤ tt) (lit≤ tt) (lit≤ tt) ∙ last_february b.calendar holds.calendar;
  penalties = all_penalties b holds;
}
