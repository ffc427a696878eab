-- Bytes cut into chunks of eight, and the lines that the chunks stand for.
use Rattle.std.proofs.Common.{◌≡◌, ℕ, zero, suc, ◌+◌, ◌*◌, ◌^◌, ◌<◌, ◌≤◌, ◌-◌, List, [], ◌∷◌, ◌++◌, take, drop, length, get_or, inl, inr, subst, sym, ap, ◌∙◌, refl, arith}
use Rattle.std.specs.List.{flat_map, zip, All}
use Rattle.std.specs.Simd.{first_chunks}
use Rattle.std.specs.Int.{w64, to_le_bytes}
use Rattle.std.proofs.lemmas.Nat.{le_bytes_8}
use Rattle.std.proofs.lemmas.List.{take_all, length-map, length-take, length-take-le, length-drop, take-append-drop, get_or-take, get_or-drop, get_or_past}
use Rattle.std.proofs.lemmas.List.Elements.{All-cons, All-take, All-drop}
use Rattle.std.proofs.lemmas.Grind.{flat_map-append}
use Rattle.std.proofs.lemmas.Bool.{cases_lt}
use Rattle.std.proofs.lemmas.Slice.Zip.{length-zip}
use Rattle.statement.specs.Encoding.{right_bytes, penalty_bytes, encoding}
use Rattle.statement.specs.Parts.{amount_of, line_of, lines_of, Fits}

-- every number of the list is a byte
abbrev pub Bytes : List ℕ → Type 0
Bytes bs = (i : ℕ) → get_or bs i 0 < 256

-- eight bytes
abbrev pub Eight : List ℕ → Type 0
Eight c = (length c ≡ 8) × Bytes c

pub Bytes-drop : (n : ℕ) (bs : List ℕ) → Bytes bs → Bytes (drop n bs)
Bytes-drop n bs small i = omega (arith, get_or-drop n bs i 0, small (n + i))

pub Bytes-take : (n : ℕ) (bs : List ℕ) → Bytes bs → Bytes (take n bs)
Bytes-take n bs small i =
    elim (cases_lt i n) [
      | inl inside ↦ omega (arith, get_or-take n bs i 0 inside, small i)
      | inr past ↦ omega (arith, get_or_past (take n bs) i 0 (omega (arith, length-take n bs, past)))
    ]

pub length-first_chunks : (n k : ℕ) (bs : List ℕ) → length (first_chunks n k bs) ≡ k
length-first_chunks n zero bs = refl
length-first_chunks n (suc k) bs = ap suc (length-first_chunks n k (drop n bs))

-- eight bytes to a chunk, and the chunks together are the bytes
pub chunks_are : (n : ℕ) (bs : List ℕ) → length bs ≡ 8 * n → Bytes bs → All Eight (first_chunks 8 n bs) × (flat_map (λ c. c) (first_chunks 8 n bs) ≡ bs)
chunks_are zero [] whole small = (λ k d inside. absurd (omega (arith, inside)), refl)
chunks_are zero (b ∷ bs) whole small = absurd (omega (arith, whole))
chunks_are (suc n) bs whole small =
    let front : Eight (take 8 bs) = (length-take-le 8 bs (omega (arith, whole)), Bytes-take 8 bs small) in
    let rest = chunks_are n (drop 8 bs) (length-drop 8 bs ∙ omega (arith, whole)) (Bytes-drop 8 bs small) in
    (All-cons Eight (take 8 bs) (first_chunks 8 n (drop 8 bs)) front rest.0, ap (λ w. take 8 bs ++ w) rest.1 ∙ take-append-drop 8 bs)

-- an amount of eight bytes has these bytes
pub amount_bytes : (c : List ℕ) → Eight c → to_le_bytes w64 (amount_of c) ≡ c
amount_bytes c eight = le_bytes_8 c (amount_of c) eight.0 eight.1 refl

pub small_amount : (c : List ℕ) → Bytes c → amount_of c < 2 ^ 64
small_amount c small = omega (arith, small 0, small 1, small 2, small 3, small 4, small 5, small 6, small 7)

-- the lines of as many rights as penalties have those bytes
pub record Again (rs ps : List (List ℕ)) : Type 0 where
  pub lines : length (lines_of rs ps) ≡ length rs
  pub rights : flat_map right_bytes (lines_of rs ps) ≡ flat_map (λ c. c) rs
  pub penalties : flat_map penalty_bytes (lines_of rs ps) ≡ flat_map (λ c. c) ps
  pub fit : All Fits (lines_of rs ps)

pub again : (rs ps : List (List ℕ)) → All Eight rs → All Eight ps → length rs ≡ length ps → Again rs ps
again [] [] er ep same = record { lines = refl; rights = refl; penalties = refl; fit = λ k d inside. absurd (omega (arith, inside)) }
again [] (p ∷ ps) er ep same = absurd (omega (arith, same))
again (r ∷ rs) [] er ep same = absurd (omega (arith, same))
again (r ∷ rs) (p ∷ ps) er ep same =
    let right = er 0 [] (omega arith) in
    let penalty = ep 0 [] (omega arith) in
    let rest = again rs ps (λ k d inside. er (suc k) d (omega (arith, inside))) (λ k d inside. ep (suc k) d (omega (arith, inside))) (omega (arith, same)) in
    record {
      lines = omega (arith, rest.lines);
      rights = ap (λ w. w ++ flat_map right_bytes (lines_of rs ps)) (amount_bytes r right) ∙ ap (λ w. r ++ w) rest.rights;
      penalties = ap (λ w. w ++ flat_map penalty_bytes (lines_of rs ps)) (amount_bytes p penalty) ∙ ap (λ w. p ++ w) rest.penalties;
      fit = All-cons Fits (line_of r p) (lines_of rs ps) (small_amount r right.1, small_amount p penalty.1) rest.fit;
    }

-- bytes in form are a statement's: their first byte, and the lines that the rest stands for
pub record Apart (bytes : List ℕ) (rs ps : List (List ℕ)) : Type 0 where
  pub encoded : bytes ≡ encoding (get_or bytes 0 0) (lines_of rs ps)
  pub again : Again rs ps

pub apart : (bytes : List ℕ) (n : ℕ) → Bytes bytes → (amounts : List ℕ) → bytes ≡ get_or bytes 0 0 ∷ n ∷ amounts → length amounts ≡ 16 * n → (chunks : List (List ℕ)) → chunks ≡ first_chunks 8 (2 * n) amounts → Apart bytes (take n chunks) (drop n chunks)
apart bytes n small amounts begun whole chunks cut =
    let two = 2 * n in
    let small_too : Bytes amounts = λ i. omega (arith, ap (λ w. get_or w (suc (suc i)) 0) begun, small (suc (suc i))) in
    let cs = chunks_are two amounts (whole ∙ omega arith) small_too in
    let rs = take n chunks in
    let ps = drop n chunks in
    let many : length chunks ≡ two = ap length cut ∙ length-first_chunks 8 two amounts in
    let eights : All Eight chunks = subst (All Eight) (sym cut) cs.0 in
    let few : length rs ≡ n = length-take-le n chunks (omega (arith, many)) in
    let back : Again rs ps = again rs ps (All-take Eight n chunks eights) (All-drop Eight n chunks eights) (few ∙ omega (arith, length-drop n chunks, many)) in
    let all : flat_map right_bytes (lines_of rs ps) ++ flat_map penalty_bytes (lines_of rs ps) ≡ amounts =
    ap (λ w. w ++ flat_map penalty_bytes (lines_of rs ps)) back.rights ∙ ap (λ w. flat_map (λ c. c) rs ++ w) back.penalties
    ∙ sym (flat_map-append (λ c. c) rs ps) ∙ ap (flat_map (λ c. c)) (take-append-drop n chunks ∙ cut) ∙ cs.1 in
    let count : length (lines_of rs ps) ≡ n = back.lines ∙ few in
    record {
      encoded = begun ∙ ap (λ k. get_or bytes 0 0 ∷ k ∷ amounts) (sym count) ∙ ap (λ w. get_or bytes 0 0 ∷ length (lines_of rs ps) ∷ w) (sym all);
      again = back;
    }

pub first_two : (bytes : List ℕ) → 2 ≤ length bytes → bytes ≡ get_or bytes 0 0 ∷ get_or bytes 1 0 ∷ take (length bytes - 2) (drop 2 bytes)
first_two [] two = absurd (omega (arith, two))
first_two (b ∷ []) two = absurd (omega (arith, two))
first_two (b ∷ d ∷ bytes) two = ap (λ w. b ∷ d ∷ w) (sym (take_all (length (b ∷ d ∷ bytes) - 2) bytes (omega arith)))

pub length-lines_of : (rs ps : List (List ℕ)) → length rs ≡ length ps → length (lines_of rs ps) ≡ length rs
length-lines_of rs ps same = length-map (zip rs ps) (λ x. line_of x.0 x.1) ∙ omega (arith, length-zip rs ps, same)
