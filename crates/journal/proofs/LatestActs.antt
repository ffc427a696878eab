-- What a reading of a journal's acts tells with one act more on top.
use Rattle.std.proofs.Common.{◌≡◌, ℕ, ◌+◌, Bool, true, false, cond, List, ◌∷◌, Some, None, count_by, Option, unwrap_or, refl, ap, arith}
use Rattle.std.proofs.lemmas.List.Sums.{sum_by-cons}
use Rattle.journal.specs.Acts.{Act, told}

-- a figure of what the latest act tells, where it tells something only if t
pub told_figure : {A B : Type 0} (figure : A → B) (t : Bool) (x : A) (o : Option A) (d : A) → figure (unwrap_or (told (cond t (Some x) None) o) d) ≡ cond t (figure x) (figure (unwrap_or o d))
told_figure figure true x o d = refl
told_figure figure false x o d = refl

-- one act more of a sort
pub one_more : (sort : Act → Bool) (x : Act) (h : List Act) → sort x ≡ true → count_by sort (x ∷ h) ≡ count_by sort h + 1
one_more sort x h is =
    let more = sum_by-cons (λ y. cond (sort y) 1 0) x h in
    let one : cond {A = ℕ} (sort x) 1 0 ≡ 1 = ap (λ t. cond {A = ℕ} t 1 0) is in
    omega arith
