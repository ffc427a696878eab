use Rattle.std.proofs.Common.{rules}
use Rattle.ledger.specs.Runs.{noted}
use Rattle.ledger.proofs.kept.Ledger.advance.Goals as goal

pub returns-in_err-total-clause-recorded : goal.returns-in_err-total-clause-recorded
returns-in_err-total-clause-recorded g c = search (rules, noted, g.met.R.SharingRule.lawful)
