-- The amounts of lines as bytes, eight each, one after another.
use Rattle.std.proofs.Common.{◌≡◌, ℕ, ◌+◌, ◌*◌, ◌<◌, List, [], ◌∷◌, ◌++◌, take, drop, length, get_or, sym, ap, ◌∙◌, refl, arith}
use Rattle.std.specs.List.{flat_map, splice}
use Rattle.std.proofs.lemmas.List.{length-append, append_assoc, append-nil, length-take-le, take_at, take_more}
use Rattle.std.proofs.lemmas.Grind.{flat_map-append}
use Rattle.std.proofs.lemmas.Slice.{drop-append-drop}
use Rattle.ledger.specs.declared.state.Line.{Line}

module _ (bytes : Line → List ℕ) (eight : (l : Line) → length (bytes l) ≡ 8) where
  pub length-amounts : (ls : List Line) → length (flat_map bytes ls) ≡ 8 * length ls
  length-amounts [] = refl
  length-amounts (l ∷ ls) = length-append (bytes l) (flat_map bytes ls) ∙ omega (arith, eight l, length-amounts ls)

  -- the amounts of the first i lines, with the next one put behind them
  pub one_more : (ls : List Line) (i : ℕ) (d : Line) → i < length ls → (old : List ℕ) → splice (flat_map bytes (take i ls) ++ drop (8 * i) old) (8 * i) (8 * i + 8) (bytes (get_or ls i d)) ≡ flat_map bytes (take (i + 1) ls) ++ drop (8 * (i + 1)) old
  one_more ls i d inside old =
      let a = flat_map bytes (take i ls) in
      let x = bytes (get_or ls i d) in
      let rest = drop (8 * (i + 1)) old in
      let begun : length a ≡ 8 * i = length-amounts (take i ls) ∙ ap (λ n. 8 * n) (length-take-le i ls (omega (arith, inside))) in
      let front : take (8 * i) (a ++ drop (8 * i) old) ≡ a = take_at a (drop (8 * i) old) (8 * i) begun in
      let back : drop (8 * i + 8) (a ++ drop (8 * i) old) ≡ rest = drop-append-drop (8 * i) old a (8 * i + 8) (omega arith) begun ∙ ap (λ n. drop n old) (omega arith) in
      let more : flat_map bytes (take (i + 1) ls) ≡ a ++ x = ap (flat_map bytes) (take_more ls i d inside) ∙ flat_map-append bytes (take i ls) (get_or ls i d ∷ []) ∙ ap (λ w. a ++ w) (append-nil x) in
      ap (λ w. w ++ (x ++ drop (8 * i + 8) (a ++ drop (8 * i) old))) front ∙ ap (λ w. a ++ (x ++ w)) back ∙ sym (append_assoc a x rest) ∙ ap (λ w. w ++ rest) (sym more)
