use Rattle.std.proofs.Common.{◌≡◌, List, ◌+◌, ◌-◌, ◌^◌, min, [], ◌∷◌, ◌++◌, sum, subst, arith, rules}
use Rattle.std.proofs.lemmas.List.Sums.{sum_by-append, sum-map}
use Rattle.std.proofs.lemmas.Fn.{fold_over, slice_gives, fronts}
use Rattle.sharing.specs.declared.rows.Row.{Row}
use Rattle.sharing.specs.Rows.{mwhs}
use Rattle.sharing.proofs.rows.total_mwh.Goals as goal

-- one row more
mwhs_more : (rows : List Row) (row : Row) → sum (mwhs (rows ++ row ∷ [])) ≡ sum (mwhs rows) + row.mwh
mwhs_more rows row = let more = sum_by-append (λ r. r.mwh) rows (row ∷ []) in simp sum-map (omega (arith, more))

pub returns : goal.returns
returns c = subst (λ l. c.fold.result ≡ min (sum (mwhs l)) (2 ^ 64 - 1)) c.iter.ensures.rest
    (fold_over fronts (λ y. y.now) _ (λ ys n. n ≡ min (sum (mwhs ys)) (2 ^ 64 - 1)) _
    (λ ys a x b f' so_far k. let more = mwhs_more ys x.now in search rules) _ _ _ _ (slice_gives c.iter.result) (omega arith) c.fold.ensures.ran)
