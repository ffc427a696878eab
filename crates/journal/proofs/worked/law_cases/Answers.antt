use Rattle.journal.proofs.WorkedCases.{cases}
use Rattle.journal.proofs.worked.law_cases.Goals as goal

pub returns : goal.returns
returns c = cases
