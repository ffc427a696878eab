use Rattle.std.proofs.Common.{◌≡◌, ℕ, sym, ap, ◌∙◌, ap₂, rules}
use Rattle.std.specs.List.{flat_map}
use Rattle.std.specs.Slice.Iter.{iter_rest}
use Rattle.calendar.specs.Runs.{part}
use Rattle.calendar.specs.Stress.{stress_hours}
use Rattle.calendar.proofs.Stress.{stress_hours_parts}
use Rattle.calendar.proofs.year.Calendar.stress_hours.Goals as goal

pub returns : goal.returns
returns c =
    let year = c.args.self.now in
    let month = c.month_hours.result in
    let parts : flat_map (part month.start month.end) (iter_rest c.iter.result) ≡ stress_hours year c.args.month =
    ap (flat_map (part month.start month.end)) (c.iter.ensures.rest ∙ c.runs.ensures.value)
    ∙ ap₂ (λ (from to : ℕ). flat_map (part from to) year.runs) c.month_hours.ensures.begins c.month_hours.ensures.ends
    ∙ sym (stress_hours_parts year c.runs.ensures.kept c.args.month) in
    search rules
