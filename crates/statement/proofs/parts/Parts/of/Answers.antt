use Rattle.std.proofs.Common.{rules, arith, ◌≡◌, ◌-◌, ◌*◌, get_or, take, drop, length, ap, sym, subst, ◌∙◌}
use Rattle.std.specs.Simd.{first_chunks}
use Rattle.statement.proofs.Chunks.{Apart, apart, first_two}
use Rattle.statement.proofs.parts.Parts.of.Goals as goal

pub returns : goal.returns
returns c =
    let bytes = c.args.bytes.now in
    let n = get_or bytes 1 0 in
    let amounts = take (length bytes - 2) (drop 2 bytes) in
    let begun = first_two bytes c.in-len2-up.len_at_least in
    let many : length amounts ≡ 16 * n = omega (arith, c.if-amounts-count.false, c.from-count.ensures) in
    let chunks = c.as_chunks.result.0.now in
    let cut : chunks ≡ first_chunks 8 (2 * n) amounts = c.as_chunks.ensures.front ∙ ap (λ k. first_chunks 8 k amounts) (omega (arith, many)) in
    let whole = apart bytes n (λ i. search (rules, c.type_inv.bytes i)) amounts begun many chunks cut in
    let counted = c.from-count.ensures in
    let rights = c.split_at.ensures.front ∙ ap (λ k. take k chunks) counted in
    let penalties = c.split_at.ensures.back ∙ ap (λ k. drop k chunks) counted in
    let parted : Apart bytes c.split_at.result.0.now c.split_at.result.1.now =
    subst (λ rs. Apart bytes rs c.split_at.result.1.now) (sym rights) (subst (Apart bytes (take n chunks)) (sym penalties) whole) in
    (search (rules, begun, many), parted.encoded, parted.again.fit)
