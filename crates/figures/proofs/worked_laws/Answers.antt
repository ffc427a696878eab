use Rattle.std.proofs.Common.{arith}
use Rattle.figures.proofs.Sharing.{most_shareable, rows_shareable, rows_too_many, near_at, not_under, not_over, running_thirds, remainder_thirds, weight_too_many, charge_too_many, weighs_too_much, cent_lost, cent_away, cent_of_nothing, larger_first, below_its_share, not_given_out, two_to_one_row, smaller_first, later_first}
use Rattle.figures.proofs.Calendars.{one_run, no_year, too_many, no_hour, past_the_year, touching, too_few_hours, too_many_hours}
use Rattle.figures.proofs.worked_laws.Goals as goal

pub returns-clause-calendar : goal.returns-clause-calendar
returns-clause-calendar c =
    (one_run, (no_year, (too_many, (no_hour, (past_the_year, (touching, (too_few_hours, (too_many_hours, tt))))))))

pub returns-clause-shareable : goal.returns-clause-shareable
returns-clause-shareable c =
    (most_shareable, (λ ok. omega (arith, ok.cents), (λ ok. omega (arith, ok.mwh), (rows_shareable 1_024 (omega arith), (rows_too_many 1_025 (omega arith), tt)))))

pub returns-clause-near : goal.returns-clause-near
returns-clause-near c =
    (not_under 100 3 1 32 (omega arith), (near_at 100 3 1 33 (omega arith) (omega arith), (near_at 100 3 1 34 (omega arith) (omega arith), (not_over 100 3 1 35 (omega arith), (not_under 100 4 1 24 (omega arith), (near_at 100 4 1 25 (omega arith) (omega arith), (not_over 100 4 1 26 (omega arith), tt)))))))

pub returns-clause-lawful : goal.returns-clause-lawful
returns-clause-lawful c =
    (running_thirds, (remainder_thirds, (cent_lost, (cent_away, (charge_too_many, (weight_too_many, (weighs_too_much, (cent_of_nothing, tt))))))))

pub returns-clause-fair : goal.returns-clause-fair
returns-clause-fair c =
    (larger_first, (below_its_share, (not_given_out, (smaller_first, (two_to_one_row, (later_first, tt))))))
