use Rattle.std.proofs.Common.{rules}
use Rattle.statement.proofs.Exact.{exact}
use Rattle.statement.proofs.reading.read.Goals as goal

pub returns-in_err-parts-clause-exact : goal.returns-in_err-parts-clause-exact
returns-in_err-parts-clause-exact c = exact _ _ _ _ (search rules)

pub returns-clause-exact : goal.returns-clause-exact
returns-clause-exact c = exact _ _ _ _ (search rules)
