use Rattle.std.proofs.Common.{length, take, sym, ap, ◌∙◌, arith, length-take}
use Rattle.std.proofs.lemmas.Bool.Decides.{nat_tests}
use Rattle.calendar.specs.Form.{array_of}
use Rattle.calendar.proofs.FirstBad.{each_in_form}
use Rattle.calendar.proofs.year.filling.year_of.Goals as goal

pub invariant_of-result : goal.invariant_of-result
invariant_of-result c =
    let year = c.args.year_hours in
    let count = length c.args.firsts.now in
    let runs = c.given_runs-runs.result in (
      record {
        year = grind (arith, nat_tests);
        few = omega (arith, length-take count runs);
        formed = each_in_form year (take count runs) (sym c.in_default.ensures.value);
        share = sym c.right_share.ensures ∙ c.if-not-right_share.false;
      },
      omega (arith, length-take count runs),
      c.given_runs-runs.ensures.whole ∙ ap array_of (sym c.given_runs-runs.ensures.front),
    )
