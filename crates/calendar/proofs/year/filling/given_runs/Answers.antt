use Rattle.std.proofs.Common.{◌≡◌, ℕ, suc, ◌+◌, ◌-◌, ◌<◌, List, ◌∷◌, ◌++◌, length, get_or, set, take, replicate, sym, ap, ap₂, ◌∙◌, arith}
use Rattle.std.specs.List.{zip}
use Rattle.std.proofs.lemmas.List.{length-map, get_or-map, take_more, take_all, take_at, set_at, length-take-le, append_assoc}
use Rattle.std.proofs.lemmas.Slice.Zip.{length-zip, get_or-zip}
use Rattle.calendar.specs.declared.run.Run.{Run}
use Rattle.calendar.specs.Form.{no_run}
use Rattle.calendar.specs.Filling.{given_runs}
use Rattle.calendar.proofs.year.filling.given_runs.Goals as goal

abbrev run_of : ℕ × ℕ → Run
run_of p = record { first = p.0; len = p.1 }

-- how many runs are given
long : (firsts lengths : List ℕ) → length firsts ≡ length lengths → length (given_runs firsts lengths) ≡ length firsts
long firsts lengths even = omega (arith, length-map (zip firsts lengths) run_of, length-zip firsts lengths)

pub loop-k-preserved : goal.loop-k-preserved
loop-k-preserved c =
    let firsts = c.args.firsts.now in
    let lengths = c.args.lengths.now in
    let given = given_runs firsts lengths in
    let k = c.loop-k.k in
    let run = run_of (get_or firsts k 0, get_or lengths k 0) in
    let inside : k < length given = omega (arith, long firsts lengths c.requires.even) in
    let next : get_or given k no_run ≡ run =
    get_or-map run_of (zip firsts lengths) k (0, 0) no_run (omega (arith, length-zip firsts lengths)) ∙ ap run_of (get_or-zip firsts lengths k (0, 0) (omega arith) (omega arith)) in
    let front = take k given in
    let behind = replicate (366 - (k + 1)) no_run in
    let room : 366 - k ≡ suc (366 - (k + 1)) = omega arith in
    ap (λ (rs : List Run). set rs k run) (c.loop-k.invariant ∙ ap (λ (n : ℕ). front ++ replicate n no_run) room)
    ∙ set_at front no_run behind run k (length-take-le k given (omega arith))
    ∙ sym (ap (λ (rs : List Run). rs ++ behind) (take_more given k no_run inside) ∙ append_assoc front _ behind ∙ ap (λ (r : Run). front ++ r ∷ behind) next)

pub returns : goal.returns
returns c =
    let given = given_runs c.args.firsts.now c.args.lengths.now in
    let all : c.loop-k.k ≡ length given = omega (arith, long c.args.firsts.now c.args.lengths.now c.requires.even) in
    let whole = c.loop-k.invariant ∙ ap₂ (λ (rs : List Run) (n : ℕ). rs ++ replicate (366 - n) no_run) (take_all c.loop-k.k given (omega arith)) all in
    let count = length c.args.firsts.now in
    record { front = ap (λ (rs : List Run). take count rs) whole ∙ take_at given _ count (omega (arith, all)); whole = whole }
