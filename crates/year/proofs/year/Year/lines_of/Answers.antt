use Rattle.std.proofs.Common.{rules}
use Rattle.std.proofs.lemmas.List.Elements.{All-replicate}
use Rattle.ledger.specs.Form.{Bounded}
use Rattle.year.proofs.year.Year.lines_of.Goals as goal

pub loop-facility-init : goal.loop-facility-init
loop-facility-init c = All-replicate Bounded 64 c.default-lines.result (search rules)
