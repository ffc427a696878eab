use Rattle.std.proofs.Common.{◌^◌, ◌<◌, sum_by, arith, rules}
use Rattle.std.proofs.iter.runs.Made.{chains}
use Rattle.ledger.specs.Form.{held_under}
use Rattle.ledger.proofs.kept.Ledger.held_in_all.Goals as goal

pub sum-requires-clause-fits : goal.sum-requires-clause-fits
sum-requires-clause-fits c =
    let s = c.args.self.now in
    let fits : sum_by (held_under c.args.facility) s.book.trade.items < 2 ^ 32 = omega (arith, s.within c.args.facility, s.firm c.args.facility) in
    search (rules, chains)
