-- The stage, by what the acts have come to.
use Rattle.std.proofs.Common.{◌≡◌, ℕ, ◌+◌, ◌<◌, List, [], ◌∷◌, length, count_by, refl, ap, arith}
use Rattle.ledger.specs.declared.state.Stage.{Stage}
use Rattle.ledger.specs.declared.state.Stage.TheVariants.{Unopened, Month, Finished}
use Rattle.ledger.specs.declared.state.Phase.TheVariants.{Trading, Metering, Claims}
use Rattle.journal.specs.Acts.{Act, is_cut, is_advance, is_closing}
use Rattle.journal.specs.Law.{Staged}
use Rattle.journal.specs.Cases.{start, idle_advance}

-- not opened, as long as there are no acts
pub unopened_at : (s : Stage) → Staged s [] → s ≡ Unopened
unopened_at Unopened now = refl
unopened_at (Month m Trading) now = absurd (now.0 refl)
unopened_at (Month m Metering) now = absurd (omega arith)
unopened_at (Month m Claims) now = absurd (omega arith)
unopened_at Finished now = absurd (omega arith)

-- in trading, where there are acts, and no cut-off has come since the closings
pub trading_at : (s : Stage) (h : List Act) (n : ℕ) → 0 < length h → n < 12 → count_by is_closing h ≡ n → count_by is_cut h ≡ n → Staged s h → s ≡ Month (n + 1) Trading
trading_at Unopened h n some early closings cuts now = absurd (omega (arith, ap length now))
trading_at (Month m Trading) h n some early closings cuts now = ap (λ x. Month x Trading) (omega arith)
trading_at (Month m Metering) h n some early closings cuts now = absurd (omega arith)
trading_at (Month m Claims) h n some early closings cuts now = absurd (omega arith)
trading_at Finished h n some early closings cuts now = absurd (omega arith)

-- in metering, where no advance has come since the cut-off
pub metering_at : (s : Stage) (h : List Act) (n : ℕ) → n < 12 → count_by is_closing h ≡ n → count_by is_cut h ≡ n + 1 → count_by is_advance h ≡ n → Staged s h → s ≡ Month (n + 1) Metering
metering_at Unopened h n early closings cuts advances now = absurd (omega (arith, ap (count_by is_cut) now))
metering_at (Month m Trading) h n early closings cuts advances now = absurd (omega arith)
metering_at (Month m Metering) h n early closings cuts advances now = ap (λ x. Month x Metering) (omega arith)
metering_at (Month m Claims) h n early closings cuts advances now = absurd (omega arith)
metering_at Finished h n early closings cuts advances now = absurd (omega arith)

-- in claims, where one has
pub claims_at : (s : Stage) (h : List Act) (n : ℕ) → n < 12 → count_by is_closing h ≡ n → count_by is_advance h ≡ n + 1 → Staged s h → s ≡ Month (n + 1) Claims
claims_at Unopened h n early closings advances now = absurd (omega (arith, ap (count_by is_advance) now))
claims_at (Month m Trading) h n early closings advances now = absurd (omega arith)
claims_at (Month m Metering) h n early closings advances now = absurd (omega arith)
claims_at (Month m Claims) h n early closings advances now = ap (λ x. Month x Claims) (omega arith)
claims_at Finished h n early closings advances now = absurd (omega arith)

-- nowhere, where an advance has come without a cut-off
pub nowhere : (s : Stage) → ¬ Staged s (idle_advance ∷ start)
nowhere Unopened now = omega (arith, ap length now)
nowhere (Month m Trading) now = omega arith
nowhere (Month m Metering) now = omega arith
nowhere (Month m Claims) now = omega arith
nowhere Finished now = omega arith
