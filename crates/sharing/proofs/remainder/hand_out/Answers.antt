use Rattle.std.proofs.Common.{◌≡◌, ℕ, ◌+◌, ◌-◌, ◌<◌, ◌≤◌, cond, eqb, length, get_or, sym, refl, ap, ◌∙◌, arith}
use native.Mathlib.Nat.{sub-zero}
use Rattle.std.proofs.lemmas.List.Sums.{get_or-le-sum_by}
use Rattle.std.proofs.lemmas.Bool.Decides.{nat_tests}
use Rattle.sharing.specs.Rows.{charges_in}
use Rattle.sharing.specs.Remainder.{one_more, with_more}
use Rattle.sharing.specs.Cut.{count_above, cent_at}
use Rattle.sharing.proofs.Charged.{no_row, charged_none, charge_now, charged_more, charged_all, length-charges_in}
use Rattle.sharing.specs.Cuts.{count_at, at_more, cut_cent}
use Rattle.sharing.specs.RemainderLaws.{length-with_more, with_more_at}
use Rattle.sharing.proofs.remainder.hand_out.Goals as goal

pub loop-i-init : goal.loop-i-init
loop-i-init c = (sym (charged_none c.args.rows.now), refl, sym (sub-zero c.find-cut.result.ties))

pub charge_more-requires : goal.charge_more-requires
charge_more-requires c =
    let rows = c.args.rows.now in
    let i = c.loop-i.i in
    let inside : i < length (charges_in rows) = omega (arith, length-charges_in rows) in
    let charge = charge_now rows c.loop-i.rows (with_more (charges_in rows) c.args.left.now.rems.now c.args.left.now.cents) i c.loop-i.invariant.0 (omega (arith, c.requires.each)) in
    let is = c.next.ensures.cent in
    let one : c.next.result ≤ 1 = grind (arith, nat_tests) in
    omega (arith, charge, get_or-le-sum_by (λ x. x) (charges_in rows) i 0 inside, c.requires.fits)

pub loop-i-preserved : goal.loop-i-preserved
loop-i-preserved c =
    let rows = c.args.rows.now in
    let rems = c.args.left.now.rems.now in
    let left = c.args.left.now.cents in
    let cs = with_more (charges_in rows) rems left in
    let i = c.loop-i.i in
    let rem : ℕ = get_or rems i 0 in
    let at = c.find-cut.result.at in
    let cut = c.loop-i.cut in
    let so_far = c.loop-i.invariant in
    let in-rows : i < length rows = omega (arith, c.requires.each) in
    let charge = charge_now rows c.loop-i.rows cs i so_far.0 in-rows in
    let ties : cut.ties ≡ left - count_above rems at - count_at rems at i = so_far.2 ∙ ap (λ n. n - count_at rems at i) c.find-cut.ensures.ties in
    let cent : c.next.result ≡ one_more rems left i = c.next.ensures.cent ∙ ap (λ t. cent_at t cut.ties rem) so_far.1 ∙ ap (λ n. cent_at at n rem) ties ∙ cut_cent rems i c.loop-i-test.true left at c.find-cut.ensures.at in
    let more = with_more_at (charges_in rows) rems left i (omega (arith, length-charges_in rows)) in
    let tied : ◌≡◌ {A = ℕ} (cond (eqb rem cut.at) 1 0) (cond (eqb rem at) 1 0) = ap (λ t. cond (eqb rem t) 1 0) so_far.1 in (
      charged_more rows c.loop-i.rows cs i so_far.0 c.charge_more.new.row ((get_or c.loop-i.rows i no_row).charge + c.next.result) c.charge_more.ensures (omega arith) (length-with_more (charges_in rows) rems left ∙ length-charges_in rows) in-rows,
      c.next.ensures.same ∙ so_far.1,
      omega (arith, so_far.2, c.next.ensures.ties, at_more rems at i c.loop-i-test.true),
    )

pub returns : goal.returns
returns c =
    let rows = c.args.rows.now in
    let rems = c.args.left.now.rems.now in
    let left = c.args.left.now.cents in
    charged_all rows c.loop-i.rows (with_more (charges_in rows) rems left) c.loop-i.i c.loop-i.invariant.0 (length-with_more (charges_in rows) rems left ∙ length-charges_in rows) (omega (arith, c.requires.each))
