-- What a journal's accepted entries did, and how that is read: by sums over them, and by the latest that says something.
-- A refused entry did nothing, and a claim and a dismissed claim did nothing to stage, holdings, lines or charges.
use Rattle.std.specs.Prelude.{ℕ, ◌+◌, Bool, true, false, cond, ◌&&◌, List, [], ◌∷◌, Some, None, Ok, sum, count_by, Option, ◌==◌}
use Rattle.metering.specs.Meaning.{ReportMeaning}
use Rattle.sharing.specs.declared.rows.Row.{Row}
use Rattle.sharing.specs.Rows.{charges_in}
use Rattle.sharing.specs.Rule.{RuleMeaning}
use Rattle.ledger.specs.Registering.{firm_power}
use Rattle.ledger.specs.Entries.{Journal, opening, registering, switching, awarding, ceding, cutting, reporting, advancing, upholding, closing}

-- what an accepted entry did; a report and an upheld claim both bring a report
pub data Act : Type 0 where
  opened : (year : ℕ) (firsts lengths : List ℕ) → Act
  registered : (facility letter firm : ℕ) → Act
  switched : (facility : ℕ) (on : Bool) → Act
  awarded : (award facility kw price : ℕ) → Act
  ceded : (award giver taker kw : ℕ) → Act
  cut : Act
  reported : (facility : ℕ) (report : ReportMeaning) → Act
  advanced : (rule : RuleMeaning) (rows : List Row) (total : ℕ) (left : List Row) → Act
  closed : (rule : RuleMeaning) (rows : List Row) (total : ℕ) (left : List Row) → Act

-- the acts of a journal, the newest first
abbrev pub acts : Journal → List Act
acts [] = []
acts (opening year firsts lengths (Ok u) ∷ j) = opened year firsts lengths ∷ acts j
acts (registering letter modules count access (Ok f) ∷ j) = registered f letter (firm_power modules count access) ∷ acts j
acts (switching f on (Ok u) ∷ j) = switched f on ∷ acts j
acts (awarding f kw price (Ok a) ∷ j) = awarded a f kw price ∷ acts j
acts (ceding a giver taker kw (Ok u) ∷ j) = ceded a giver taker kw ∷ acts j
acts (cutting (Ok u) ∷ j) = cut ∷ acts j
acts (reporting f report (Ok u) ∷ j) = reported f report ∷ acts j
acts (upholding f report (Ok u) ∷ j) = reported f report ∷ acts j
acts (advancing rule rows (Ok total) left ∷ j) = advanced rule rows total left ∷ acts j
acts (closing rule rows (Ok total) left ∷ j) = closed rule rows total left ∷ acts j
acts (_ ∷ j) = acts j

-- the kW that an act brings to the facility f under the award a
abbrev pub brought : ℕ → ℕ → Act → ℕ
brought a f (awarded n g kw price) = cond (a == n && f == g) kw 0
brought a f (ceded n giver taker kw) = cond (a == n && f == taker) kw 0
brought a f _ = 0

-- the kW that it takes from the facility f under the award a
abbrev pub lost : ℕ → ℕ → Act → ℕ
lost a f (ceded n giver taker kw) = cond (a == n && f == giver) kw 0
lost a f _ = 0

-- the kW and the price of the award a, where the act made it
abbrev pub terms_of : ℕ → Act → Option (ℕ × ℕ)
terms_of a (awarded n g kw price) = cond (a == n) (Some (kw, price)) None
terms_of a _ = None

-- whether the act made an award
abbrev pub is_award : Act → Bool
is_award (awarded n g kw price) = true
is_award _ = false

-- whether the act registered a facility
abbrev pub is_registering : Act → Bool
is_registering (registered n letter firm) = true
is_registering _ = false

-- the firm power of the facility f, where the act registered it
abbrev pub firm_of : ℕ → Act → Option ℕ
firm_of f (registered n letter firm) = cond (f == n) (Some firm) None
firm_of f _ = None

-- on or off, where the act switched the facility f
abbrev pub switch_of : ℕ → Act → Option Bool
switch_of f (switched n v) = cond (f == n) (Some v) None
switch_of f _ = None

-- the report of the facility f, where the act brought one
abbrev pub report_of : ℕ → Act → Option ReportMeaning
report_of f (reported n report) = cond (f == n) (Some report) None
report_of f _ = None

-- whether the act was a cut-off
abbrev pub is_cut : Act → Bool
is_cut cut = true
is_cut _ = false

-- whether the act was an advance
abbrev pub is_advance : Act → Bool
is_advance (advanced rule rows total left) = true
is_advance _ = false

-- whether the act was a closing
abbrev pub is_closing : Act → Bool
is_closing (closed rule rows total left) = true
is_closing _ = false

-- what the buyers' rows were charged in all, where the act was a closing
abbrev pub charged_by : Act → ℕ
charged_by (closed rule rows total left) = sum (charges_in left)
charged_by _ = 0

-- an answer, or else another
abbrev pub told : {A : Type 0} → Option A → Option A → Option A
told (Some a) other = Some a
told None other = other

-- the answer of the latest act that gives one
abbrev pub latest : {A : Type 0} → (Act → Option A) → List Act → Option A
latest says [] = None
latest says (x ∷ h) = told (says x) (latest says h)

-- what stood before the latest act of a sort
abbrev pub before : (Act → Bool) → List Act → List Act
before sort [] = []
before sort (x ∷ h) = cond (sort x) h (before sort h)

-- what came after it
abbrev pub since : (Act → Bool) → List Act → List Act
since sort [] = []
since sort (x ∷ h) = cond (sort x) [] (x ∷ since sort h)

-- what stood before the n-th act of a sort, counted from the oldest
abbrev pub before_nth : (Act → Bool) → ℕ → List Act → List Act
before_nth sort n [] = []
before_nth sort n (x ∷ h) = cond (sort x && n == count_by sort h + 1) h (before_nth sort n h)
