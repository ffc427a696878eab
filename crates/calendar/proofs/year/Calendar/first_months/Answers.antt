use Rattle.std.proofs.Common.{ℕ, ◌*◌, List, take, sum, ◌∙◌, ap₂}
use Rattle.calendar.specs.Months.{first_months}
use Rattle.calendar.proofs.Months.{first_months_twelve}
use Rattle.calendar.proofs.year.Calendar.first_months.Goals as goal

pub returns-clause-value : goal.returns-clause-value
unfolding first_months
returns-clause-value c =
    c.hours_of.ensures
    ∙ ap₂ (λ (n : ℕ) (days : List ℕ). 24 * sum (take n days)) c.min-months.ensures c.days-days.ensures.value
    ∙ first_months_twelve c.args.self.now.year_hours c.args.months
