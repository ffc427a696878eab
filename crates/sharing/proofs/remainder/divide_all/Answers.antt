use Rattle.std.proofs.Common.{◌≡◌, ◌-◌, ◌<◌, ◌≤◌, length, get_or, sum, sym, ap, ◌∙◌, arith}
use native.Mathlib.Nat.{sub-zero}
use Rattle.std.proofs.lemmas.List.{take_all, take_more}
use Rattle.std.proofs.lemmas.List.Sums.{get_or-le-sum_by}
use Rattle.sharing.specs.Rows.{mwhs}
use Rattle.sharing.specs.Split.{cents_of}
use Rattle.sharing.specs.Remainder.{whole_cents, remainder_of, remainders}
use Rattle.sharing.proofs.Charged.{no_row, charged_none, mwh_now, charged_more, charged_all, length-mwhs}
use Rattle.sharing.specs.SplitLaws.{parts_more}
use Rattle.sharing.specs.Dividing.{length-whole_cents, length-remainders, whole_cents_at, remainder_at}
use Rattle.sharing.proofs.remainder.divide_all.Goals as goal

pub loop-row-init : goal.loop-row-init
loop-row-init c = (sym (charged_none c.args.rows.now), c.requires.none, sym (sub-zero c.args.weighed.total))

pub divide-requires : goal.divide-requires
divide-requires c =
    let rows = c.args.rows.now in
    let ms = mwhs rows in
    let i = c.loop-row.row-index in
    let inside : i < length ms = omega (arith, length-mwhs rows) in
    let mwh = mwh_now rows c.loop-row.rows (whole_cents c.args.weighed.total c.args.weighed.whole ms) i c.loop-row.invariant.0 c.loop-row-test.true in
    omega (arith, mwh, get_or-le-sum_by (λ x. x) ms i 0 inside, c.requires.weighed)

pub loop-row-preserved : goal.loop-row-preserved
loop-row-preserved c =
    let rows = c.args.rows.now in
    let ys = c.loop-row.rows in
    let ms = mwhs rows in
    let total = c.args.weighed.total in
    let whole = c.args.weighed.whole in
    let cs = whole_cents total whole ms in
    let rs = remainders total whole ms in
    let i = c.loop-row.row-index in
    let so_far = c.loop-row.invariant in
    let inside : i < length ms = omega (arith, length-mwhs rows) in
    let mwh : (get_or ys i no_row).mwh ≡ get_or ms i 0 = mwh_now rows ys cs i so_far.0 c.loop-row-test.true in
    let cents : cents_of total whole (get_or ys i no_row).mwh ≡ get_or cs i 0 = ap (cents_of total whole) mwh ∙ sym (whole_cents_at total whole ms i inside) in
    let rest : c.divide.result ≡ get_or rs i 0 = c.divide.ensures.rest ∙ ap (remainder_of total whole) mwh ∙ sym (remainder_at total whole ms i inside) in
    let paid : c.divide.new.row.charge ≡ get_or cs i 0 = ap (λ r. r.charge) c.divide.ensures.charges ∙ cents in (
      charged_more rows ys cs i so_far.0 c.divide.new.row (cents_of total whole (get_or ys i no_row).mwh) c.divide.ensures.charges cents (length-whole_cents total whole ms ∙ length-mwhs rows) c.loop-row-test.true,
      rw (c.push.ensures.items, so_far.1, rest) (sym (take_more rs i 0 (omega (arith, length-remainders total whole ms)))),
      omega (arith, so_far.2, c.saturating_sub-left.ensures, paid, parts_more cs i (omega (arith, length-whole_cents total whole ms))),
    )

pub returns : goal.returns
returns c =
    let rows = c.args.rows.now in
    let ms = mwhs rows in
    let total = c.args.weighed.total in
    let whole = c.args.weighed.whole in
    let cs = whole_cents total whole ms in
    let i = c.loop-row.row-index in
    let so_far = c.loop-row.invariant in
    let past : length ms ≤ i = omega (arith, length-mwhs rows) in
    record {
      charges = charged_all rows c.loop-row.rows cs i so_far.0 (length-whole_cents total whole ms ∙ length-mwhs rows) c.loop-row-test.false;
      rests = so_far.1 ∙ take_all i (remainders total whole ms) (omega (arith, length-remainders total whole ms));
      left = so_far.2 ∙ ap (λ l. total - sum l) (take_all i cs (omega (arith, length-whole_cents total whole ms)));
    }
