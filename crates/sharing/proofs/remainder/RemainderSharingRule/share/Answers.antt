use Rattle.std.proofs.Common.{◌≡◌, ℕ, ◌*◌, ◌≤◌, List, length, sum, sym, ap, ◌∙◌, subst, mul-le-mul, arith}
use Rattle.sharing.specs.declared.rows.Row.{Row}
use Rattle.sharing.specs.Rows.{mwhs, charges_in, charged}
use Rattle.sharing.specs.Remainder.{whole_cents, remainders, left_over, with_more, by_remainder, Fair}
use Rattle.sharing.proofs.Charged.{charged_again, charges_in_charged, length-mwhs}
use Rattle.sharing.specs.Dividing.{length-whole_cents, length-remainders, whole_cents_small, none_above}
use Rattle.sharing.specs.RemainderLaws.{length-by_remainder, remainder_fair}
use Rattle.sharing.proofs.remainder.RemainderSharingRule.share.Goals as goal

-- what rows are charged with once the whole cents are put in
charges_whole : (c w : ℕ) (rows once : List Row) → once ≡ charged rows (whole_cents c w (mwhs rows)) → charges_in once ≡ whole_cents c w (mwhs rows)
charges_whole c w rows once whole =
    ap charges_in whole ∙ charges_in_charged rows (whole_cents c w (mwhs rows)) (length-whole_cents c w (mwhs rows) ∙ length-mwhs rows)

-- rows charged with the whole cents, and then with one more, are charged by the rule
charged_by_remainder : (c w : ℕ) (rows once twice : List Row) (rests : List ℕ) (left : ℕ) → once ≡ charged rows (whole_cents c w (mwhs rows)) → rests ≡ remainders c w (mwhs rows) → left ≡ left_over c w (mwhs rows) → twice ≡ charged once (with_more (charges_in once) rests left) → twice ≡ charged rows (by_remainder c w (mwhs rows))
charged_by_remainder c w rows once twice rests left whole rems over more =
    let cs = by_remainder c w (mwhs rows) in
    let same : with_more (charges_in once) rests left ≡ cs = rw (charges_whole c w rows once whole, rems, over) in
    more ∙ ap (charged once) same ∙ ap (λ l. charged l cs) whole
    ∙ charged_again rows (whole_cents c w (mwhs rows)) cs (length-by_remainder c w (mwhs rows) ∙ length-mwhs rows)

pub invariant_of-hand_out : goal.invariant_of-hand_out
invariant_of-hand_out c =
    let weighed = c.in_ok-weighed.weighed in
    let ms = mwhs c.args.rows.now in
    let all = c.as_slice-rems.ensures.value ∙ c.divide_all-cents.ensures.rests in record {
      top = rw all (none_above weighed.total weighed.whole ms weighed.some);
      few = omega (arith, ap length all, length-remainders weighed.total weighed.whole ms, c.requires.rows);
    }

pub hand_out-requires-clause-fits : goal.hand_out-requires-clause-fits
hand_out-requires-clause-fits c =
    let rows = c.args.rows.now in
    let ms = mwhs rows in
    let weighed = c.in_ok-weighed.weighed in
    let charges = charges_whole weighed.total weighed.whole rows c.divide_all-cents.new.rows c.divide_all-cents.ensures.charges in
    let small = whole_cents_small weighed.total weighed.whole ms in
    let most : weighed.total * sum ms ≤ 30_000_000_000 * 40_000_000 = mul-le-mul weighed.cents c.requires.mwh in
    rw charges (omega (arith, small, most))

pub returns : goal.returns
returns c =
    let rows = c.args.rows.now in
    let ms = mwhs rows in
    let total = c.args.total in
    let weighed = c.in_ok-weighed.weighed in
    let is = c.in_ok-weighed.ensures in
    let divided = c.divide_all-cents.ensures in
    let cs = by_remainder total (sum ms) ms in
    let long : length cs ≡ length rows = length-by_remainder total (sum ms) ms ∙ length-mwhs rows in
    let by : c.hand_out.new.rows ≡ charged rows (by_remainder weighed.total weighed.whole ms) = charged_by_remainder weighed.total weighed.whole rows c.divide_all-cents.new.rows c.hand_out.new.rows c.as_slice-rems.result.now c.divide_all-cents.result divided.charges (c.as_slice-rems.ensures.value ∙ divided.rests) divided.left c.hand_out.ensures in
    let done : c.hand_out.new.rows ≡ charged rows cs = by ∙ ap (λ t. charged rows (by_remainder t weighed.whole ms)) is.0 ∙ ap (λ w. charged rows (by_remainder total w ms)) is.1 in
    let some : sum ms ≡ 0 → total ≡ 0 = λ z. sym is.0 ∙ weighed.some (is.1 ∙ z) in
    let charges : charges_in c.hand_out.new.rows ≡ cs = ap charges_in done ∙ charges_in_charged rows cs long in
    record {
      shares = (some, done);
      fair = λ _. let P : List ℕ → Type 0 = λ l. Fair total ms l in subst P (sym charges) (remainder_fair total ms some);
    }
