use Rattle.std.proofs.Common.{ℕ, sum_by, sym, ap, ◌∙◌, ap₂, arith}
use Rattle.calendar.specs.Runs.{part_hours}
use Rattle.calendar.proofs.Stress.{length-stress_hours, parts_most}
use Rattle.calendar.proofs.year.Calendar.stress_hours_in.Goals as goal

pub hours_covered-requires : goal.hours_covered-requires
hours_covered-requires c =
    let month = c.month_hours.result in
    rw c.runs.ensures.value (parts_most c.args.self.now c.runs.ensures.kept month.start month.end)

pub returns : goal.returns
returns c =
    let year = c.args.self.now in
    let month = c.month_hours.result in
    let covered = c.hours_covered.ensures ∙ ap (sum_by (part_hours month.start month.end)) c.runs.ensures.value in
    let is = ap₂ (λ (from to : ℕ). sum_by (part_hours from to) year.runs) c.month_hours.ensures.begins c.month_hours.ensures.ends in
    record { value = covered ∙ is ∙ sym (length-stress_hours year c.runs.ensures.kept c.args.month); bound = omega (arith, covered, parts_most year c.runs.ensures.kept month.start month.end) }
