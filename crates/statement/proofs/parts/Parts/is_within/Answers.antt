use Rattle.std.proofs.Common.{rules, ◌≡◌, true, length, ap, sym, ◌∙◌}
use Rattle.std.specs.Prelude.{◌&&◌}
use Rattle.std.specs.List.{zip, list_all}
use Rattle.std.proofs.lemmas.List.Folds.{list_all-map}
use Rattle.std.proofs.lemmas.Iterator.{YieldsList-from_slice, YieldsList-from_zip}
use Rattle.std.proofs.lemmas.Iterator.Consumers.{YieldsList-at}
use Rattle.std.proofs.lemmas.Iterator.Search.{all_from_yields_List}
use Rattle.statement.specs.Limits.{bounded, counted}
use Rattle.statement.specs.Parts.{line_of, lines_of}
use Rattle.statement.proofs.parts.Parts.is_within.Goals as goal

pub returns-then-is_counted : goal.returns-then-is_counted
returns-then-is_counted c =
    let rs = c.args.self.now.rights.now in
    let ps = c.args.self.now.penalties.now in
    let ls = lines_of rs ps in
    let each : c.all.result ≡ list_all (λ x. bounded (line_of x.0 x.1)) (zip rs ps) =
    all_from_yields_List (λ x. bounded (line_of x.0 x.1)) c.all.new.self _ c.all.result c.all.ensures.ran
    (YieldsList-from_zip (YieldsList-at c.zip.ensures.first (YieldsList-from_slice rs c.iter.ensures.rest)) (YieldsList-from_slice ps (search rules)))
    (λ x b q k. search rules) in
    let fits : counted c.args.self.now.month (length ls) ≡ true = ap (λ m. counted m (length ls)) (sym c.month.ensures) ∙ ap (counted c.month.result) (sym c.count.ensures) ∙ sym c.is_counted.ensures ∙ c.if-is_counted.true in
    each ∙ sym (list_all-map bounded (λ x. line_of x.0 x.1) (zip rs ps)) ∙ ap (λ b. b && list_all bounded ls) (sym fits)
