use Rattle.std.proofs.Common.{◌≡◌, ℕ, ◌+◌, ◌-◌, ◌<◌, length, get_or, sum, sym, ap, ◌∙◌, arith}
use Rattle.sharing.specs.Rows.{mwhs}
use Rattle.sharing.specs.Split.{cents_of, split}
use Rattle.sharing.proofs.Charged.{no_row, charged_none, mwh_now, charged_more, charged_all, length-mwhs}
use Rattle.sharing.specs.SplitLaws.{length-split, reached, reached_within, part_is}
use Rattle.sharing.proofs.running.RunningSharingRule.share.Goals as goal

pub loop-row-init : goal.loop-row-init
loop-row-init c =
    let begun = c.split-split.ensures in
    let weighed = c.in_ok-weighed.ensures in
    (sym (charged_none c.args.rows.now), begun.0 ∙ weighed.0, begun.1 ∙ weighed.1, begun.2)

pub charge_next-requires : goal.charge_next-requires
charge_next-requires c =
    let rows = c.args.rows.now in
    let ms = mwhs rows in
    let i = c.loop-row.row-index in
    let so_far = c.loop-row.invariant in
    let mwh = mwh_now rows c.loop-row.rows (split c.args.total (sum ms) ms) i so_far.0 c.loop-row-test.true in
    let inside : i < length ms = omega (arith, length-mwhs rows) in
    omega (arith, mwh, so_far.2, reached_within ms i c.loop-row.split.before so_far.3 inside)

pub loop-row-preserved : goal.loop-row-preserved
loop-row-preserved c =
    let rows = c.args.rows.now in
    let ms = mwhs rows in
    let total = c.args.total in
    let cs = split total (sum ms) ms in
    let i = c.loop-row.row-index in
    let so_far = c.loop-row.invariant in
    let before = c.loop-row.split.before in
    let inside : i < length ms = omega (arith, length-mwhs rows) in
    let mwh : (get_or c.loop-row.rows i no_row).mwh ≡ get_or ms i 0 = mwh_now rows c.loop-row.rows cs i so_far.0 c.loop-row-test.true in
    let v : ℕ = cents_of c.loop-row.split.total c.loop-row.split.whole (before + (get_or c.loop-row.rows i no_row).mwh) - cents_of c.loop-row.split.total c.loop-row.split.whole before in
    let cents : v ≡ get_or cs i 0 = simp (so_far.1, so_far.2, mwh) (part_is ms i before so_far.3 inside total (sum ms)) in (
      charged_more rows c.loop-row.rows cs i so_far.0 c.charge_next.new.row v c.charge_next.ensures.charged cents (length-split total (sum ms) ms ∙ length-mwhs rows) c.loop-row-test.true,
      c.charge_next.ensures.same.0 ∙ so_far.1,
      c.charge_next.ensures.same.1 ∙ so_far.2,
      c.charge_next.ensures.next ∙ ap (λ n. before + n) mwh ∙ reached ms i before so_far.3 inside,
    )

pub returns : goal.returns
returns c =
    let rows = c.args.rows.now in
    let ms = mwhs rows in
    let total = c.args.total in
    ((λ z. sym c.in_ok-weighed.ensures.0 ∙ c.in_ok-weighed.weighed.some (c.in_ok-weighed.ensures.1 ∙ z)), charged_all rows c.loop-row.rows (split total (sum ms) ms) c.loop-row.row-index c.loop-row.invariant.0 (length-split total (sum ms) ms ∙ length-mwhs rows) c.loop-row-test.false)
