-- Claims, and dismissing them. Serves src/claiming.rt.
use Rattle.std.specs.Prelude.{ℕ, ◌-◌, Bool, true, false, not, List, [], ◌∷◌, ◌++◌, length, Ok, slice_set}
use Rattle.ledger.specs.declared.course.Call.TheVariants as call
use Rattle.ledger.specs.declared.refusal.Refusal.TheVariants as refusal
use Rattle.ledger.specs.declared.state.Claim.{Claim}
use Rattle.ledger.specs.declared.state.Claim.TheVariants as claim
use Rattle.ledger.specs.declared.state.Filed.{Filed}
use Rattle.ledger.specs.declared.state.Book.{Book}
use Rattle.ledger.specs.Judged.{Rows, given_out, Answer, Does}
use Rattle.ledger.specs.Course.{course}
use Rattle.ledger.specs.Form.{filed_at}
use Rattle.ledger.specs.Changes.{with_month}

-- the claim of the facility f in the month under way
abbrev pub claim_of : Book → ℕ → Claim
claim_of b f = (filed_at b.month (f - 1)).claim

-- a claim was made, answered or not
abbrev pub was_made : Claim → Bool
was_made claim.None = false
was_made _ = true

-- a claim waits for an answer
abbrev pub is_open : Claim → Bool
is_open claim.Open = true
is_open _ = false

-- the month with another claim of the facility f
abbrev pub put_claim : List Filed → ℕ → Claim → List Filed
put_claim m f x = slice_set m (f - 1) (record (filed_at m (f - 1)) { claim = x })

-- the book with another claim of the facility f
abbrev pub with_claim : Book → ℕ → Claim → Book
with_claim b f x = with_month b (put_claim b.month f x)

-- a claim wants that none was made
abbrev pub unclaimed_rows : Claim → Rows
unclaimed_rows x = (was_made x, refusal.ClaimedTwice) ∷ []

abbrev pub claim_rows : Book → ℕ → Rows
claim_rows b f =
    course call.Claim b.stage
    ++ (not (given_out f (length b.register.items)), refusal.NoFacility) ∷ unclaimed_rows (claim_of b f)

abbrev pub claimed : Book → ℕ → Book
claimed b f = with_claim b f claim.Open

-- an answer wants an open claim
abbrev pub answer_rows : Claim → Rows
answer_rows x = (not (is_open x), refusal.NoClaim) ∷ []

abbrev pub dismiss_rows : Book → ℕ → Rows
dismiss_rows b f =
    course call.Answer b.stage
    ++ (not (given_out f (length b.register.items)), refusal.NoFacility) ∷ answer_rows (claim_of b f)

abbrev pub dismissed : Book → ℕ → Book
dismissed b f = with_claim b f claim.Answered

-- a claim on the book b answers r and leaves the book b', and so does dismissing one
abbrev pub MakesClaim : Book → ℕ → Answer (Unit {0}) → Book → Type 0
MakesClaim b f r b' = Does (claim_rows b f) (Ok tt) (claimed b f) b r b'

abbrev pub Dismisses : Book → ℕ → Answer (Unit {0}) → Book → Type 0
Dismisses b f r b' = Does (dismiss_rows b f) (Ok tt) (dismissed b f) b r b'
