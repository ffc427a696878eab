-- How a call's table of refusals is read, from the top, the first row that applies; and what a call answers and leaves.
use Rattle.std.specs.Prelude.{◌≡◌, ℕ, Bool, cond, ◌&&◌, List, [], ◌∷◌, Ok, Err, Result, nat_le}
pub use Rattle.calendar.specs.Judged.{judged, kept_or}
use Rattle.ledger.specs.declared.refusal.Refusal.{Refusal}
use Rattle.ledger.specs.declared.fault.LedgerFault.{LedgerFault}
use Rattle.ledger.specs.declared.fault.LedgerFault.TheVariants as fault

-- conditions, each with the refusal that it leads to
abbrev pub Rows : Type 0
Rows = List (Bool × Refusal)

-- the fault of the first row that applies, or the answer that is given when none does
abbrev pub ruled : {A : Type 0} → Rows → Result A LedgerFault → Result A LedgerFault
ruled [] answer = answer
ruled (r ∷ rs) answer = cond r.0 (Err (fault.Own r.1)) (ruled rs answer)

-- what a call answers
abbrev pub Answer : Type 0 → Type 0
Answer A = Result A LedgerFault

-- What a call answers and leaves: the refusal of the first row that applies, or the answer given when none does; and what
-- stood, changed where the call was accepted.
abbrev pub Does : {A B : Type 0} → Rows → Answer A → B → B → Answer A → B → Type 0
Does rows answer changed stood r after = record {
  answer : r ≡ ruled rows answer;
  after : after ≡ kept_or r changed stood;
}

-- an answer, with a plain value in place of the one that it has
abbrev pub plainly : {A B E : Type 0} → (A → B) → Result A E → Result B E
plainly plain (Ok a) = Ok (plain a)
plainly plain (Err e) = Err e

-- whether the number n, counted from 1, was given out, of `count` numbers
abbrev pub given_out : ℕ → ℕ → Bool
given_out n count = nat_le 1 n && nat_le n count
