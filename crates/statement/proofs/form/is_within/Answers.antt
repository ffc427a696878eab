use Rattle.std.proofs.Common.{rules}
use Rattle.std.proofs.lemmas.Iterator.{YieldsList-from_slice}
use Rattle.std.proofs.lemmas.Iterator.Search.{all_from_yields_List}
use Rattle.statement.specs.Limits.{bounded}
use Rattle.statement.proofs.form.is_within.Goals as goal

pub returns-then-is_counted : goal.returns-then-is_counted
returns-then-is_counted c =
    let each = all_from_yields_List bounded _ _ c.all.result c.all.ensures.ran (YieldsList-from_slice c.args.lines.now cc) (λ x b q k. search rules) in
    search (rules, each)
