-- Two statements that have the same bytes are the same.
use Rattle.std.proofs.Common.{◌≡◌, ℕ, suc, ◌*◌, ◌<◌, ◌≤◌, ◌^◌, true, List, [], ◌∷◌, ◌++◌, take, drop, length, get_or, refl, ap, sym, ◌∙◌, arith}
use Rattle.std.specs.List.{flat_map, list_all, All}
use Rattle.std.specs.Int.{w64, to_le_bytes, from_le_bytes}
use Rattle.std.proofs.lemmas.Nat.{from_le_bytes-to_le_bytes_8}
use Rattle.std.proofs.lemmas.Bool.{and_parts, leb-true}
use Rattle.std.proofs.lemmas.List.{take_at, drop_at}
use Rattle.std.proofs.lemmas.List.Sums.{AllPass-from_list_all}
use Rattle.ledger.specs.declared.state.Line.{Line}
use Rattle.statement.specs.Limits.{bounded, counted, within}
use Rattle.statement.specs.Encoding.{right_bytes, penalty_bytes, encoding, Distinct}
use Rattle.statement.specs.Parts.{Fits}
use Rattle.statement.proofs.Amounts.{length-amounts}

-- lists that begin with as many elements are the same in front and behind
pub same_parts : {A : Type 0} (xs ys rest left : List A) → length xs ≡ length ys → xs ++ rest ≡ ys ++ left → (xs ≡ ys) × (rest ≡ left)
same_parts xs ys rest left long same = (
  sym (take_at xs rest (length ys) long) ∙ ap (take (length ys)) same ∙ take_at ys left (length ys) refl,
  sym (drop_at xs rest (length ys) long) ∙ ap (drop (length ys)) same ∙ drop_at ys left (length ys) refl,
)

-- amounts that have the same eight bytes are the same
same_amount : (n k : ℕ) → n < 2 ^ 64 → k < 2 ^ 64 → to_le_bytes w64 n ≡ to_le_bytes w64 k → n ≡ k
same_amount n k small less same = sym (from_le_bytes-to_le_bytes_8 n small) ∙ ap (from_le_bytes w64) same ∙ from_le_bytes-to_le_bytes_8 k less

same_lines : (ls hs : List Line) → All Fits ls → All Fits hs → length ls ≡ length hs → flat_map right_bytes ls ≡ flat_map right_bytes hs → flat_map penalty_bytes ls ≡ flat_map penalty_bytes hs → ls ≡ hs
same_lines [] [] fl fh long rights penalties = refl
same_lines [] (h ∷ hs) fl fh long rights penalties = absurd (omega (arith, long))
same_lines (l ∷ ls) [] fl fh long rights penalties = absurd (omega (arith, long))
same_lines (l ∷ ls) (h ∷ hs) fl fh long rights penalties =
    let one = fl 0 l (omega arith) in
    let other = fh 0 h (omega arith) in
    let r = same_parts (right_bytes l) (right_bytes h) (flat_map right_bytes ls) (flat_map right_bytes hs) refl rights in
    let p = same_parts (penalty_bytes l) (penalty_bytes h) (flat_map penalty_bytes ls) (flat_map penalty_bytes hs) refl penalties in
    let right = same_amount l.right h.right one.0 other.0 r.0 in
    let penalty = same_amount l.penalty h.penalty one.1 other.1 p.0 in
    let rest : ls ≡ hs = same_lines ls hs (λ k d inside. fl (suc k) d (omega (arith, inside))) (λ k d inside. fh (suc k) d (omega (arith, inside))) (omega (arith, long)) r.1 p.1 in
    λ i. record { right = right i; penalty = penalty i } ∷ rest i

pub same_statement : (m n : ℕ) (ls hs : List Line) → All Fits ls → All Fits hs → encoding m ls ≡ encoding n hs → (m ≡ n) × (ls ≡ hs)
same_statement m n ls hs fl fh same =
    let long : length ls ≡ length hs = ap (λ w. get_or w 1 0) same in
    let amounts = same_parts (flat_map right_bytes ls) (flat_map right_bytes hs) (flat_map penalty_bytes ls) (flat_map penalty_bytes hs)
    (length-amounts right_bytes (λ l. refl) ls ∙ ap (λ k. 8 * k) long ∙ sym (length-amounts right_bytes (λ l. refl) hs)) (ap (drop 2) same) in
    (ap (λ w. get_or w 0 0) same, same_lines ls hs fl fh long amounts.0 amounts.1)

-- the amounts of lines within the limits fit eight bytes
pub within_fits : (m : ℕ) (ls : List Line) → within m ls ≡ true → All Fits ls
within_fits m ls inside k d there =
    let each = AllPass-from_list_all bounded ls (and_parts (counted m (length ls)) (list_all bounded ls) inside).1 k d there in
    let l = get_or ls k d in
    let right : l.right ≤ 1_000_000_000 = leb-true l.right 1_000_000_000 (and_parts _ _ each).0 in
    let penalty : l.penalty ≤ l.right = leb-true l.penalty l.right (and_parts _ _ each).1 in
    (omega (arith, right), omega (arith, right, penalty))

pub distinct : Distinct
distinct m n ls hs here there same = same_statement m n ls hs (within_fits m ls here) (within_fits n hs there) same
