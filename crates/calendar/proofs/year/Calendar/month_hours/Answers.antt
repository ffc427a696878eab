use Rattle.std.proofs.Common.{sym, ◌∙◌}
use Rattle.calendar.proofs.Months.{after_year}
use Rattle.calendar.proofs.year.Calendar.month_hours.Goals as goal

pub returns-clause-outside : goal.returns-clause-outside
returns-clause-outside c = λ past.
    c.month_begins.ensures.value ∙ after_year c.args.self.now.year_hours c.args.month past ∙ sym c.month_ends.ensures.value
