-- What a sharing rule means, what every rule keeps, and what it does to the rows. Serves src/rule.rt.
use Rattle.std.specs.Prelude.{◌≡◌, ℕ, ◌+◌, ◌*◌, ◌<◌, ◌≤◌, List, length, Ok, Err, sum, Result, slice_index}
use Rattle.sharing.specs.declared.rule.TheConstants.{MOST_ROWS}
use Rattle.sharing.specs.declared.rows.Row.{Row}
use Rattle.sharing.specs.declared.fault.SharingFault.{SharingFault}
use Rattle.sharing.specs.declared.fault.SharingFault.TheVariants.{NoWeight}
use Rattle.sharing.specs.Rows.{mwhs, charged}

-- what a rule means: for a total and the MWh of the rows, a weight and a charge for each row
pub record RuleMeaning : Type 0 where
  pub weights : ℕ → List ℕ → List ℕ
  pub charges : ℕ → List ℕ → List ℕ

-- the most cents that a rule is asked to share, which no month passes
abbrev pub most_cents : ℕ
most_cents = 30_000_000_000

-- a total, and the MWh of rows, that a rule can be asked to share
pub record Shareable (total : ℕ) (ms : List ℕ) : Type 0 where
  pub cents : total ≤ most_cents
  pub rows : length ms ≤ MOST_ROWS
  pub mwh : sum ms ≤ 40_000_000

-- A charge that is less than one cent from the exact share, which is total × weight / all: as whole numbers, charge × all
-- differs from total × weight by less than all. So 33 and 34 are near a third of 100, and 32 and 35 are not.
pub record Near (total all weight charge : ℕ) : Type 0 where
  pub not_over : charge * all < total * weight + all
  pub not_under : total * weight < charge * all + all

-- the total, shared over rows of these MWh by the weights ws as the charges cs
pub record Lawful (total : ℕ) (ms ws cs : List ℕ) : Type 0 where
  pub weight_each : length ws ≡ length ms
  pub charge_each : length cs ≡ length ms
  pub bounded : sum ws ≤ 40_000_000
  pub adds_up : 0 < sum ws → sum cs ≡ total
  pub near : 0 < sum ws → (i : ℕ) → i < length ms → Near total (sum ws) (slice_index ws i) (slice_index cs i)
  pub nothing : sum ws ≡ 0 → total ≡ 0 → (i : ℕ) → i < length ms → slice_index cs i ≡ 0

-- what every rule keeps
abbrev pub IsLawful : RuleMeaning → Type 0
IsLawful rule = (total : ℕ) (ms : List ℕ) → Shareable total ms → Lawful total ms (rule.weights total ms) (rule.charges total ms)

-- What a rule answers and leaves. With a total and no weight it refuses, and the rows stay; else it puts the charges in
-- and changes nothing else.
abbrev pub Shares : RuleMeaning → ℕ → List Row → Result (Unit {0}) SharingFault → List Row → Type 0
Shares rule total before (Ok _) after =
    (sum (rule.weights total (mwhs before)) ≡ 0 → total ≡ 0) × (after ≡ charged before (rule.charges total (mwhs before)))
Shares rule total before (Err fault) after =
    (sum (rule.weights total (mwhs before)) ≡ 0) × (0 < total) × (fault ≡ NoWeight) × (after ≡ before)
