use Rattle.std.proofs.Common.{◌≡◌, ◌-◌, take}
use Rattle.sharing.specs.Rows.{charged, charges_in}
use Rattle.sharing.specs.Remainder.{with_more}
use Rattle.sharing.specs.Cuts.{count_at}
use Rattle.sharing.proofs.remainder.hand_out.Given as goal

abbrev pub invariant-loop-i : goal.invariant-loop-i
invariant-loop-i l =
    (l.rows ≡ charged l.initial.rows (take l.i (with_more (charges_in l.initial.rows) l.left.rems.now l.left.cents)))
    × (l.cut.at ≡ l.initial.cut.at)
    × (l.cut.ties ≡ l.initial.cut.ties - count_at l.left.rems.now l.initial.cut.at l.i)
