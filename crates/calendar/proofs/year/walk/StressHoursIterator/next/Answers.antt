use Rattle.std.proofs.Common.{◌≡◌, ℕ, ◌+◌, List, ◌∷◌, ◌++◌, length, sym, ap, ◌∙◌, arith, rules}
use Rattle.std.proofs.iter.Next.{firm}
use Rattle.std.specs.List.{flat_map}
use Rattle.std.specs.Slice.Iter.{iter_rest}
use Rattle.calendar.specs.Runs.{span, part}
use Rattle.calendar.specs.Walk.{hours_to_come}
use Rattle.calendar.proofs.Spans.{span_some}
use Rattle.calendar.proofs.year.walk.StressHoursIterator.next.Goals as goal

pub returns-in-Some : goal.returns-in-Some
returns-in-Some c =
    let w = c.loop-hour.self in
    let begins = w.under_way.start in
    let ends = w.under_way.end in
    let behind = flat_map (part w.month.start w.month.end) (iter_rest w.runs) in
    let (kept, (more, here, goes_on)) = c.in-Some.ensures.steps in
    let gone : hours_to_come c.args.self.now ≡ begins ∷ (span (begins + 1) ends ++ behind) =
    sym c.loop-hour.invariant ∙ ap (λ (l : List ℕ). l ++ behind) (span_some begins ends (omega (arith, more))) in
    let gives : hours_to_come c.args.self.now ≡ c.in-Some.hour ∷ hours_to_come (record { under_way = c.next.new.self; month = w.month; runs = w.runs }) = cc in
    record { steps = gives; goes = firm ((tt, tt, omega (arith, ap length gives))) (λ h. search rules) }
