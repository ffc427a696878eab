use Rattle.std.proofs.Common.{◌≤◌, ◌∙◌, sym, arith}
use Rattle.std.proofs.lemmas.List.Elements.{All-map}
use Rattle.metering.specs.Meaning.{report_meaning}
use Rattle.metering.proofs.Credits.{credited_within, has_hour}
use Rattle.metering.proofs.measuring.measure.Goals as goal

pub returns-clause-within : goal.returns-clause-within
returns-clause-within g c =
    let x = report_meaning g.K.Kind c.args.report.now in
    let k = c.args.commitment in
    let bounded = All-map (λ credit. credit k ≤ k) g.K.Kind.credit c.args.report.now.hours.now (λ i d _. g.met.K.Kind.bounded _ k) in
    omega (
      arith,
      c.credited_in-credited.ensures,
      credited_within x c.args.calendar.now c.args.month k c.in_ok-counted.counted bounded (sym c.counted.ensures ∙ c.in_ok-counted.was),
    )

pub returns-clause-tested : goal.returns-clause-tested
returns-clause-tested g c =
    let x = report_meaning g.K.Kind c.args.report.now in
    has_hour x g.met.K.Kind.lasting.0 c.args.calendar.now c.args.month c.in_ok-counted.counted x.test (sym c.counted.ensures ∙ c.in_ok-counted.was)
