-- The records are those of the first hours, and then those of the hours after them.
use Rattle.std.proofs.Common.{◌≡◌, ℕ, ◌-◌, ◌≤◌, min, List, [], ◌++◌, length, take, replicate, vec_items, vec_len, ap, ◌∙◌, arith}
use Rattle.std.proofs.lemmas.List.{take_all, length-replicate}
use Rattle.year.proofs.records.records.Goals as goal

-- what an empty list is filled up with
filled : {A : Type 0} (n z : ℕ) (start some : List A) (f : A) → start ≡ [] → z ≡ 0 → some ≡ take n start ++ replicate (n - z) f → some ≡ replicate n f
filled n z start some f none zero made =
    let all : n - z ≡ n = omega (arith, zero) in
    made ∙ ap (λ xs. take n xs ++ replicate (n - z) f) none ∙ ap (λ k. take n [] ++ replicate k f) all ∙ ap (λ xs. xs ++ replicate n f) (take_all n [] (omega arith))

-- what so many records are filled up with, where they are no more than are asked for
filled_up : {A : Type 0} (n len first count : ℕ) (some all : List A) (f a : A) → n ≡ min first count → len ≡ n → some ≡ replicate n f → all ≡ take count some ++ replicate (count - len) a → all ≡ replicate (min first count) f ++ replicate (count - first) a
filled_up n len first count some all f a least long same made =
    let few : length (replicate n f) ≤ count = omega (arith, length-replicate n f, least) in
    let rest : count - len ≡ count - first = omega (arith, least, long) in
    made ∙ ap (λ xs. take count xs ++ replicate (count - len) a) same ∙ ap (λ xs. xs ++ replicate (count - len) a) (take_all count (replicate n f) few) ∙ ap (λ k. replicate n f ++ replicate k a) rest ∙ ap (λ k. replicate k f ++ replicate (count - first) a) least

pub returns : goal.returns
returns g c =
    let first = c.args.hours.first in
    let items = vec_items c.resize.new.self in
    let some = filled c.min.result (vec_len c.new-all.result) (vec_items c.new-all.result) items first c.new-all.ensures.items c.new-all.ensures.len c.in_ok-resize.ensures.items in
    filled_up c.min.result (vec_len c.resize.new.self) c.args.first c.args.count items (vec_items c.resize-2.new.self) first c.args.hours.after c.min.ensures c.in_ok-resize.ensures.len some c.in_ok-resize-2.ensures.items
