use Rattle.std.proofs.Common.{ℕ, ◌+◌, ◌-◌, ◌/◌, ◌<◌, sym, arith}
use Rattle.std.proofs.lemmas.Bool.{leb-false}
use Rattle.sharing.specs.Cut.{count_above}
use Rattle.sharing.specs.Cuts.{above_falls}
use Rattle.sharing.proofs.cut.LeftOver.least.Goals as goal

pub loop-low-preserved : goal.loop-low-preserved
loop-low-preserved c =
    let rems = c.args.self.now.rems.now in
    let mid : ℕ = c.loop-low.low + (c.loop-low.high - c.loop-low.low) / 2 in
    let many : c.args.self.now.cents < count_above rems mid = leb-false (count_above rems mid) c.args.self.now.cents (sym c.if-is_enough.ensures) in
    (omega arith, c.loop-low.invariant.1, c.loop-low.invariant.2, λ s h. omega (arith, above_falls rems s mid (omega arith)))
