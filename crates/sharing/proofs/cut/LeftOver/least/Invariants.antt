use Rattle.std.proofs.Common.{ℕ, ◌-◌, ◌<◌, ◌≤◌}
use Rattle.sharing.specs.Cut.{count_above}
use Rattle.sharing.proofs.cut.LeftOver.least.Given as goal

abbrev pub invariant-loop-low : goal.invariant-loop-low
invariant-loop-low l =
    (l.low ≤ l.high)
    × (l.high ≤ l.self.most)
    × (count_above l.self.rems.now l.high ≤ l.self.cents)
    × ((s : ℕ) → s < l.low → l.self.cents < count_above l.self.rems.now s)

abbrev pub decreases-loop-low : goal.decreases-loop-low
decreases-loop-low l = l.high - l.low
