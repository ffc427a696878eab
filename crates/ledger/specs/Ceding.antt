-- Ceding: its refusals, and the kW that it moves. Serves src/ceding.rt.
use Rattle.std.specs.Prelude.{ℕ, ◌+◌, ◌-◌, not, ◌&&◌, List, [], ◌∷◌, ◌++◌, length, Ok, ◌==◌, nat_lt, slice_index, slice_set}
use Rattle.ledger.specs.declared.course.Call.TheVariants as call
use Rattle.ledger.specs.declared.refusal.Refusal.TheVariants as refusal
use Rattle.ledger.specs.declared.state.Award.{Award}
use Rattle.ledger.specs.declared.state.Book.{Book}
use Rattle.ledger.specs.Judged.{Rows, given_out, Answer, Does}
use Rattle.ledger.specs.Course.{course}
use Rattle.ledger.specs.Form.{facility_at, award_at, held_under}
use Rattle.ledger.specs.Awarding.{over_firm}
use Rattle.ledger.specs.Changes.{with_trade}

abbrev pub cede_rows : Book → ℕ → ℕ → ℕ → ℕ → Rows
cede_rows b a giver taker kw =
    course call.Cede b.stage
    ++ (not (given_out giver (length b.register.items) && given_out taker (length b.register.items)), refusal.NoFacility)
    ∷ (not (given_out a (length b.trade.items)), refusal.NoAward)
    ∷ ((kw == 0), refusal.OutOfLimits)
    ∷ ((giver == taker), refusal.GiverIsTaker)
    ∷ (not (facility_at b.register (taker - 1)).on, refusal.TakerOff)
    ∷ (nat_lt (held_under (giver - 1) (award_at b.trade (a - 1))) kw, refusal.HoldsLess)
    ∷ (over_firm b taker kw, refusal.OverFirm) ∷ []

-- the kW held at each place, with kw of them moved from the giver's place to the taker's
abbrev pub shifted : List ℕ → ℕ → ℕ → ℕ → List ℕ
shifted held giver taker kw = slice_set (slice_set held giver (slice_index held giver - kw)) taker (slice_index held taker + kw)

-- the award with other holdings
abbrev pub with_held : Award → List ℕ → Award
with_held a held = record a { held = held }

abbrev pub ceded : Book → ℕ → ℕ → ℕ → ℕ → Book
ceded b a giver taker kw =
    let old = award_at b.trade (a - 1) in
    let new = with_held old (shifted old.held (giver - 1) (taker - 1) kw) in
    with_trade b (record { items = slice_set b.trade.items (a - 1) new })

-- a cession on the book b answers r and leaves the book b'
abbrev pub Cedes : Book → ℕ → ℕ → ℕ → ℕ → Answer (Unit {0}) → Book → Type 0
Cedes b a giver taker kw r b' = Does (cede_rows b a giver taker kw) (Ok tt) (ceded b a giver taker kw) b r b'
