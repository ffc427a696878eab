use Rattle.std.proofs.Common.{◌≡◌, ◌+◌, ◌-◌, true, false, sym, subst, ◌∙◌, inl, inr, arith}
use Rattle.std.proofs.lemmas.Bool.{cases_eq}
use Rattle.std.proofs.lemmas.Bool.Decides.{nat_tests}
use Rattle.calendar.specs.Form.{in_form}
use Rattle.calendar.proofs.FirstBad.{form_by, first_bad_at, first_bad_none}
use Rattle.calendar.proofs.year.form.first_bad.Goals as goal

pub returns-then-run-eq0-clause-value : goal.returns-then-run-eq0-clause-value
returns-then-run-eq0-clause-value c =
    let year = c.args.year_hours in
    let rs = c.args.runs.now in
    let k = c.loop-k.k in
    let so_far = c.loop-k.invariant in
    let bad : in_form year rs k ≡ false = form_by year rs k c.loop-k.free so_far.at_first so_far.behind ∙ grind (arith, nat_tests) in
    sym (first_bad_at year rs k (omega arith) so_far.before bad)

pub loop-k-preserved : goal.loop-k-preserved
loop-k-preserved c =
    let year = c.args.year_hours in
    let rs = c.args.runs.now in
    let k = c.loop-k.k in
    let so_far = c.loop-k.invariant in
    let good : in_form year rs k ≡ true = form_by year rs k c.loop-k.free so_far.at_first so_far.behind ∙ grind (arith, nat_tests) in record {
      before = λ j lt. elim (cases_eq j k) [ inl is ↦ subst (λ i. in_form year rs i ≡ true) (sym is) good | inr other ↦ so_far.before j (omega arith) ];
      at_first = λ none. absurd (omega arith);
      behind = λ _. let back : k + 1 - 1 ≡ k = omega arith in rw back (omega (arith, c.span-span.ensures.end));
    }

pub returns-clause-value : goal.returns-clause-value
returns-clause-value c =
    sym (first_bad_none c.args.year_hours c.args.runs.now (λ j there. c.loop-k.invariant.before j (omega arith)))
