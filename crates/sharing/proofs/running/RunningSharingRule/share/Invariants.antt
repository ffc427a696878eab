use Rattle.std.proofs.Common.{◌≡◌, take, sum}
use Rattle.sharing.specs.Rows.{charged, mwhs}
use Rattle.sharing.specs.Split.{split}
use Rattle.sharing.proofs.running.RunningSharingRule.share.Given as goal

abbrev pub invariant-loop-row : goal.invariant-loop-row
invariant-loop-row l =
    let ms = mwhs l.initial.rows in
    (l.rows ≡ charged l.initial.rows (take l.row-index (split l.total (sum ms) ms)))
    × (l.split.total ≡ l.total)
    × (l.split.whole ≡ sum ms)
    × (l.split.before ≡ sum (take l.row-index ms))
