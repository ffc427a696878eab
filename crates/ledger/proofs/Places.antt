-- What holds of each place of a list, where one place is changed, or one item pushed.
use Rattle.std.proofs.Common.{◌≡◌, ℕ, zero, suc, ◌<◌, ◌≢◌, List, [], ◌∷◌, ◌++◌, length, get_or, set, replicate, sym, refl, ap, ◌∙◌, subst, ⊎_elim, arith}
use Rattle.std.specs.List.{refill}
use Rattle.arrayvec.specs.ArrayVec.{ArrayVec, with_item, with_items}
use Rattle.std.proofs.lemmas.List.{get_or-set_same, get_or-set_other, length-set}
use Rattle.std.proofs.lemmas.Bool.{cases_eq}

-- a fact of every place, where one place is changed
pub each_set : {A : Type 0} (P : ℕ → A → Type 0) (xs : List A) (i : ℕ) (x d : A) → i < length xs → P i x → ((j : ℕ) → j ≢ i → P j (get_or xs j d)) → (j : ℕ) → P j (get_or (set xs i x) j d)
each_set P xs i x d inside here there j =
    ⊎_elim
    (λ same. subst (λ k. P k (get_or (set xs i x) k d)) (sym same) (subst (P i) (sym (get_or-set_same xs i x d inside)) here))
    (λ other. subst (P j) (sym (get_or-set_other xs i j x d other)) (there j other)) (cases_eq j i)

-- a fact of every place, where one item is pushed
pub each_push : {A : Type 0} (P : ℕ → A → Type 0) (xs : List A) (x d : A) → P (length xs) x → ((j : ℕ) → j ≢ length xs → P j (get_or xs j d)) → (j : ℕ) → P j (get_or (xs ++ x ∷ []) j d)
each_push P [] x d here there zero = here
each_push P [] x d here there (suc j) = there (suc j) (λ same. omega (arith, same))
each_push P (y ∷ ys) x d here there zero = there zero (λ same. omega (arith, same))
each_push P (y ∷ ys) x d here there (suc j) = each_push (λ k. P (suc k)) ys x d here (λ k other. there (suc k) (λ same. other (omega (arith, same)))) j

-- as many items as a list has, written over it, are all that it has then
refill_whole : {A : Type 0} (xs ws : List A) → length ws ≡ length xs → refill (length xs) xs ws ≡ ws
refill_whole [] [] same = refl
refill_whole [] (w ∷ ws) same = absurd (omega arith)
refill_whole (x ∷ xs) [] same = absurd (omega arith)
refill_whole (x ∷ xs) (w ∷ ws) same = ap (λ l. w ∷ l) (refill_whole xs ws (omega arith))

-- so a vector of whose items one was written through the slice has that item
pub item_written : {A : Type 0} (v : ArrayVec A) (xs : List A) (i : ℕ) (x : A) → xs ≡ v.items → with_items v (set xs i x) ≡ with_item v i x
item_written v xs i x all =
    let whole = refill_whole v.items (set xs i x) (length-set xs i x ∙ ap length all) ∙ ap (λ ys. set ys i x) all in
    λ k. record { items = whole k }

-- a list of one value has it at every place, where it stands for what lies past the end too
pub same_at : {A : Type 0} (n i : ℕ) (x : A) → get_or (replicate n x) i x ≡ x
same_at zero i x = refl
same_at (suc n) zero x = refl
same_at (suc n) (suc i) x = same_at n i x
