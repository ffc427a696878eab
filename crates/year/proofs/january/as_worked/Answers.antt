-- The charges of three rows, each of them the same.
use Rattle.std.proofs.Common.{rules, tests, arith, ◌≡◌, ◌==◌, true, ℕ, List, [], ◌∷◌, length, replicate, ap, sym, ◌∙◌}
use Rattle.std.specs.List.{list_all}
use Rattle.std.proofs.lemmas.Bool.{and_parts, eqb-true}
use Rattle.std.proofs.lemmas.Iterator.{YieldsList-from_slice}
use Rattle.std.proofs.lemmas.Iterator.Search.{all_from_yields_List}
use Rattle.sharing.specs.declared.rows.Row.{Row}
use Rattle.sharing.specs.Rows.{charges_in}
use Rattle.year.proofs.january.as_worked.Goals as goal

-- rows that are all charged k
all_charged : (k : ℕ) (rows : List Row) → list_all (λ r. r.charge == k) rows ≡ true → charges_in rows ≡ replicate (length rows) k
all_charged k [] all = cc
all_charged k (r ∷ rows) all =
    let both = and_parts (r.charge == k) (list_all (λ x. x.charge == k) rows) all in
    let first = eqb-true r.charge k both.0 in
    let rest = all_charged k rows both.1 in
    cc

pub returns-then-total-eq-TOTAL-clause-charged : goal.returns-then-total-eq-TOTAL-clause-charged
returns-then-total-eq-TOTAL-clause-charged c is =
    let rows = c.args.rows in
    let all = all_from_yields_List (λ r. r.charge == 3_215_054) _ _ c.all.result c.all.ensures.ran (YieldsList-from_slice rows cc) (λ x b q k. search (rules, tests)) in
    let three : length rows ≡ 3 = omega arith in
    all_charged 3_215_054 rows (sym all ∙ is) ∙ ap (λ n. replicate n 3_215_054) three
