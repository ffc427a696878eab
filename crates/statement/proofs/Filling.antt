-- Lines put over the first of others.
use Rattle.std.proofs.Common.{◌≡◌, ℕ, zero, suc, ◌<◌, List, [], ◌∷◌, ◌++◌, take, drop, length, get_or, set, refl, ap, ◌∙◌, arith}
use Rattle.std.proofs.lemmas.List.{take_all}
use Rattle.ledger.specs.declared.state.Line.{Line}
use Rattle.statement.specs.Reading.{filled}
use Rattle.statement.specs.Parts.{line_of, lines_of}

-- the first i lines put over others, and the next one put over its like
pub fill_more : (ls old : List Line) (i : ℕ) (d : Line) → i < length ls → i < length old → set (take i ls ++ drop i old) i (get_or ls i d) ≡ take (suc i) ls ++ drop (suc i) old
fill_more [] old i d inside room = absurd (omega (arith, inside))
fill_more (l ∷ ls) [] i d inside room = absurd (omega (arith, room))
fill_more (l ∷ ls) (o ∷ old) zero d inside room = refl
fill_more (l ∷ ls) (o ∷ old) (suc i) d inside room = ap (λ w. l ∷ w) (fill_more ls old i d (omega (arith, inside)) (omega (arith, room)))

-- all of them put over others
pub fill_all : (ls old : List Line) (i : ℕ) → i ≡ length ls → take i ls ++ drop i old ≡ filled ls old
fill_all ls old i all = ap (λ w. w ++ drop i old) (take_all i ls (omega (arith, all))) ∙ ap (λ k. ls ++ drop k old) all

-- the line at a place is made of the bytes at that place
pub line_at : (rs ps : List (List ℕ)) (i : ℕ) (d : Line) → length rs ≡ length ps → i < length rs → get_or (lines_of rs ps) i d ≡ line_of (get_or rs i []) (get_or ps i [])
line_at [] ps i d same inside = absurd (omega (arith, inside))
line_at (r ∷ rs) [] i d same inside = absurd (omega (arith, same))
line_at (r ∷ rs) (p ∷ ps) zero d same inside = refl
line_at (r ∷ rs) (p ∷ ps) (suc i) d same inside = line_at rs ps i d (omega (arith, same)) (omega (arith, inside))
