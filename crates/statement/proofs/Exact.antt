-- The bytes of a statement are read as that statement, and as no other.
use Rattle.std.proofs.Common.{◌≡◌, ◌≢◌, ℕ, true, false, List, length, refl, ap, sym, true≢false, ◌∙◌, arith, rules, tests}
use Rattle.std.specs.Prelude.{nat_lt, cond, Result, Ok, Err}
use Rattle.std.specs.List.{flat_map, All}
use Rattle.std.proofs.lemmas.List.{length-append}
use Rattle.ledger.specs.declared.state.Line.{Line}
use Rattle.statement.specs.declared.fault.StatementFault.{StatementFault}
use Rattle.statement.specs.declared.fault.StatementFault.TheVariants.{Length, Limits, Buffer}
use Rattle.statement.specs.Limits.{within}
use Rattle.statement.specs.Encoding.{right_bytes, penalty_bytes, encoding, length_of}
use Rattle.statement.specs.Reading.{in_form, filled, States, Reads, Answers}
use Rattle.statement.specs.Parts.{Fits}
use Rattle.statement.proofs.Amounts.{length-amounts}
use Rattle.statement.proofs.Distinct.{distinct, same_statement, within_fits}

-- how many bytes a statement has
pub length-encoding : (m : ℕ) (ls : List Line) → length (encoding m ls) ≡ length_of (length ls)
length-encoding m ls =
    omega (arith, length-append (flat_map right_bytes ls) (flat_map penalty_bytes ls), length-amounts right_bytes (λ l. refl) ls, length-amounts penalty_bytes (λ l. refl) ls)

pub encoding_in_form : (m : ℕ) (ls : List Line) → in_form (encoding m ls) ≡ true
encoding_in_form m ls = search (rules, tests, length-encoding m ls)

-- the bytes of what no statement may say are the bytes of no statement
pub none : (bytes : List ℕ) (m : ℕ) (ls : List Line) → bytes ≡ encoding m ls → All Fits ls → within m ls ≡ false → (n : ℕ) (hs : List Line) → within n hs ≡ true → bytes ≢ encoding n hs
none bytes m ls is fits outside n hs inside also =
    let same = same_statement n m hs ls (within_fits n hs inside) fits (sym also ∙ is) in
    true≢false (sym inside ∙ ap (λ k. within k hs) same.0 ∙ ap (within m) same.1 ∙ outside)

pub exact : (bytes : List ℕ) (old new : List Line) (r : Result (ℕ × ℕ) StatementFault) → Answers bytes old r new → (m : ℕ) (ls : List Line) → States bytes m ls → Reads m ls old r new
exact bytes old new (Ok (n, k)) (hs, there, many, room, left) m ls here =
    let same = distinct n m hs ls there.0 here.0 (sym there.1 ∙ here.1) in
    let count : k ≡ length ls = sym many ∙ ap length same.1 in
    let holds : nat_lt (length old) (length ls) ≡ false = search (rules, tests, count, room) in
    ((λ i. Ok (same.0 i, count i)) ∙ ap (λ b. cond b (Err Buffer) (Ok (m, length ls))) (sym holds), left ∙ ap (λ w. filled w old) same.1)
exact bytes old new (Err Length) (formless, left) m ls here = absurd (true≢false (sym (encoding_in_form m ls) ∙ ap in_form (sym here.1) ∙ formless))
exact bytes old new (Err Limits) ((form, others), left) m ls here = absurd (others m ls here.0 here.1)
exact bytes old new (Err Buffer) ((n, hs, there, full), left) m ls here =
    let same = distinct n m hs ls there.0 here.0 (sym there.1 ∙ here.1) in
    let lacks : nat_lt (length old) (length ls) ≡ true = search (rules, tests, same.1, full) in
    (ap (λ b. cond b (Err Buffer) (Ok (m, length ls))) (sym lacks), left)
