-- The course of a month: which call belongs to which stage, and where it leads. Serves src/course.rt.
use Rattle.std.specs.Prelude.{ℕ, ◌+◌, min, Bool, true, false, cond, not, ◌&&◌, [], ◌∷◌, ◌==◌}
use Rattle.ledger.specs.declared.state.Stage.{Stage}
use Rattle.ledger.specs.declared.state.Stage.TheVariants.{Unopened, Month, Finished}
use Rattle.ledger.specs.declared.state.Phase.{Phase}
use Rattle.ledger.specs.declared.state.Phase.TheVariants.{Trading, Metering, Claims}
use Rattle.ledger.specs.declared.course.Call.{Call}
use Rattle.ledger.specs.declared.course.Call.TheVariants as call
use Rattle.ledger.specs.declared.refusal.Refusal.TheVariants as refusal
use Rattle.ledger.specs.Judged.{Rows}

abbrev pub unopened : Stage → Bool
unopened Unopened = true
unopened _ = false

abbrev pub finished : Stage → Bool
finished Finished = true
finished _ = false

abbrev pub trading : Phase → Bool
trading Trading = true
trading _ = false

abbrev pub metering : Phase → Bool
metering Metering = true
metering _ = false

abbrev pub claims : Phase → Bool
claims Claims = true
claims _ = false

-- whether a call belongs to this phase of this month
abbrev pub in_month : Call → ℕ → Phase → Bool
in_month call.Open m p = false
in_month call.Register m p = true
in_month call.Switch m p = trading p
in_month call.Award m p = m == 1 && trading p
in_month call.Cede m p = trading p
in_month call.CutOff m p = trading p
in_month call.Report m p = metering p
in_month call.Advance m p = metering p
in_month call.Claim m p = claims p
in_month call.Answer m p = claims p
in_month call.Close m p = claims p
in_month call.Line m p = true

abbrev pub belongs : Call → Stage → Bool
belongs c (Month m p) = in_month c m p
belongs c _ = false

-- the refusals that the stage alone brings about, for a call that belongs to phases of a month
abbrev pub in_phase : Call → Stage → Rows
in_phase c s = (unopened s, refusal.NotOpened) ∷ (finished s, refusal.YearOver) ∷ (not (belongs c s), refusal.WrongPhase) ∷ []

-- and for every call
abbrev pub course : Call → Stage → Rows
course call.Open s = (not (unopened s), refusal.OpenedTwice) ∷ []
course call.Line s = (unopened s, refusal.NotOpened) ∷ []
course c s = in_phase c s

-- where an accepted call leads from a phase of a month
abbrev pub led : Call → ℕ → Phase → Stage
led call.CutOff m p = Month m Metering
led call.Advance m p = Month m Claims
led call.Close m p = cond (m == 12) Finished (Month (min (m + 1) 4294967295) Trading)
led _ m p = Month m p

-- where an accepted call leads: an opening to the trading of month 1, and reading a line nowhere else
abbrev pub moved : Call → Stage → Stage
moved c Unopened = Month 1 Trading
moved c (Month m p) = led c m p
moved c Finished = Finished
