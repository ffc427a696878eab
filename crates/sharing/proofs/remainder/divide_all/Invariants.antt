use Rattle.std.proofs.Common.{◌≡◌, ◌-◌, take, sum}
use Rattle.sharing.specs.Rows.{charged, mwhs}
use Rattle.sharing.specs.Remainder.{whole_cents, remainders}
use Rattle.sharing.proofs.remainder.divide_all.Given as goal

abbrev pub invariant-loop-row : goal.invariant-loop-row
invariant-loop-row l =
    let ms = mwhs l.initial.rows in
    let cs = whole_cents l.weighed.total l.weighed.whole ms in
    (l.rows ≡ charged l.initial.rows (take l.row-index cs))
    × (l.rems.items ≡ take l.row-index (remainders l.weighed.total l.weighed.whole ms))
    × (l.left ≡ l.weighed.total - sum (take l.row-index cs))
