use Rattle.std.proofs.Common.{rules, ◌≡◌, true, true≢false, drop, length, ap, sym, ◌∙◌}
use Rattle.std.proofs.lemmas.List.{take_at}
use Rattle.statement.specs.Limits.{within}
use Rattle.statement.specs.Encoding.{encoding, length_of}
use Rattle.statement.proofs.Exact.{length-encoding, exact}
use Rattle.statement.proofs.Booked.{booked}
use Rattle.statement.proofs.writing.write.Goals as goal

pub returns-clause-read_back : goal.returns-clause-read_back
returns-clause-read_back c old new r answer =
    let m = c.args.month in
    let ls = c.args.lines.now in
    let inside : within m ls ≡ true = search rules in
    let bytes : c.encode.new.statement ≡ encoding m ls = search rules in
    let front = take_at c.encode.new.statement (drop c.length_of-length.result c.args.out.now) (length_of (length ls)) (ap length bytes ∙ length-encoding m ls) in
    exact _ old new r answer m ls (inside, front ∙ bytes)

pub returns-then-not-is_within-clause-booked : goal.returns-then-not-is_within-clause-booked
returns-then-not-is_within-clause-booked c dated few kept is =
    true≢false (sym (booked c.args.month c.args.lines.now dated few kept) ∙ sym c.is_within.ensures ∙ c.if-not-is_within.true)
