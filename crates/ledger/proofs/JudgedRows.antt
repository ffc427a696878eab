-- Reading a table of refusals.
use Rattle.std.proofs.Common.{◌≡◌, true, false, [], ◌∷◌, ◌++◌, IsErrAnd, Ok, Err, Result, sym, refl, ap, ◌∙◌}
use Rattle.std.proofs.lemmas.Result.{err_from_is_err_and}
use Rattle.ledger.specs.declared.refusal.Refusal.{Refusal}
use Rattle.ledger.specs.declared.fault.LedgerFault.{LedgerFault}
use Rattle.ledger.specs.declared.fault.LedgerFault.TheVariants as fault
use Rattle.ledger.specs.Judged.{Rows, judged, plainly, ruled, kept_or}

-- a table that refuses a value refuses every answer
pub refused_by : {A B : Type 0} (rows : Rows) (a : A) (answer : Result B LedgerFault) (e : Refusal) → judged rows a ≡ Err e → ruled rows answer ≡ Err (fault.Own e)
refused_by [] a answer e is = cc
refused_by ((true, x) ∷ rs) a answer e is = cc
refused_by ((false, x) ∷ rs) a answer e is = refused_by rs a answer e is

-- What the exit of a `?` owes where a deciding function refused by e: the answer r of the whole call is that of its table,
-- and all stands as it stood.
pub refused_exit : {A B S : Type 0} (rows : Rows) (a : A) (answer : Result B LedgerFault) (e : Refusal) (r : Result B LedgerFault) → Err e ≡ judged rows a → IsErrAnd r (λ y. y ≡ fault.Own e) → (r ≡ ruled rows answer) × ((changed stood : S) → stood ≡ kept_or r changed stood)
refused_exit rows a answer e r is by =
    let y = err_from_is_err_and r by in
    (y.1 ∙ ap Err y.2 ∙ sym (refused_by rows a answer e (sym is)), λ changed stood. sym (ap (λ x. kept_or x changed stood) y.1))

-- the front of a table refuses for the whole of it
refused_front : {A B : Type 0} (rows more : Rows) (a : A) (b : B) (e : Refusal) → judged rows a ≡ Err e → judged (rows ++ more) b ≡ Err e
refused_front [] more a b e is = cc
refused_front ((true, x) ∷ rs) more a b e is = cc
refused_front ((false, x) ∷ rs) more a b e is = refused_front rs more a b e is

-- what the exit of a `?` owes in a deciding function, where the front of its table refused by e
pub refused_early : {A B C : Type 0} (rows more : Rows) (a : A) (b : B) (plain : C → B) (e : Refusal) (r : Result C Refusal) → Err e ≡ judged rows a → IsErrAnd r (λ y. y ≡ e) → plainly plain r ≡ judged (rows ++ more) b
refused_early rows more a b plain e r is by =
    let y = err_from_is_err_and r by in
    ap (plainly plain) y.1 ∙ ap Err y.2 ∙ sym (refused_front rows more a b e (sym is))

-- a table that lets an answer pass lets every other pass
pub passed_through : {A B : Type 0} (rows : Rows) (x : Result A LedgerFault) (v : A) (y : Result B LedgerFault) → ruled rows x ≡ Ok v → (x ≡ Ok v) × (ruled rows y ≡ y)
passed_through [] x v y is = (is, refl)
passed_through ((true, e) ∷ rs) x v y is = (cc, cc)
passed_through ((false, e) ∷ rs) x v y is = passed_through rs x v y is

-- a table that accepts one value accepts every other
pub accepted_as : {A B : Type 0} (rows : Rows) (a v : A) (b : B) → Ok v ≡ judged rows a → judged rows b ≡ Ok b
accepted_as [] a v b is = refl
accepted_as ((true, x) ∷ rs) a v b is = cc
accepted_as ((false, x) ∷ rs) a v b is = accepted_as rs a v b is

-- a table that accepts answers the value that it was given
pub accepted_value : {A : Type 0} (rows : Rows) (a v : A) → Ok v ≡ judged rows a → v ≡ a
accepted_value [] a v is = cc
accepted_value ((true, x) ∷ rs) a v is = cc
accepted_value ((false, x) ∷ rs) a v is = accepted_value rs a v is

-- a call that is accepted passed its table, and answered the value that it was to answer
pub accepted_by : {A : Type 0} (rows : Rows) (a v : A) → ruled rows (Ok a) ≡ Ok v → (judged rows a ≡ Ok a) × (v ≡ a)
accepted_by [] a v is = (refl, cc)
accepted_by ((true, x) ∷ rs) a v is = (cc, cc)
accepted_by ((false, x) ∷ rs) a v is = accepted_by rs a v is
