use Rattle.std.proofs.Common.{rules}
use Rattle.ledger.specs.Runs.{noted}
use Rattle.ledger.proofs.kept.Ledger.claim.Goals as goal

pub returns-in_err-facility-clause-recorded : goal.returns-in_err-facility-clause-recorded
returns-in_err-facility-clause-recorded c = search (rules, noted)
