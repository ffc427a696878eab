-- What every ledger keeps of its book, a name for each fact, and how a book is read at a place. Places count from 0:
-- facility 1 stands at place 0. Serves the whole crate.
use Rattle.std.specs.Prelude.{◌≡◌, ℕ, ◌<◌, ◌≤◌, false, List, [], length, sum_by, sum, None, slice_index, slice_index_or}
use Rattle.arrayvec.specs.ArrayVec.{ArrayVec}
use Rattle.ledger.specs.declared.state.Stage.{Stage}
use Rattle.ledger.specs.declared.state.Stage.TheVariants.{Unopened, Month, Finished}
use Rattle.ledger.specs.declared.state.Facility.{Facility}
use Rattle.ledger.specs.declared.state.Award.{Award}
use Rattle.ledger.specs.declared.state.Claim.TheVariants as claim
use Rattle.ledger.specs.declared.state.Filed.{Filed}
use Rattle.ledger.specs.declared.state.Line.{Line}
use Rattle.ledger.specs.declared.state.Book.{Book}

-- the facilities that were registered, in the order of their numbers
abbrev pub Register : Type 0
Register = ArrayVec Facility

-- the awards that were taken, in the order of their numbers
abbrev pub Trade : Type 0
Trade = ArrayVec Award

-- what stands for a facility, and for an award, that was not given out
abbrev pub no_facility : Facility
no_facility = record { letter = 0; firm = 0; on = false }

abbrev pub no_award : Award
no_award = record { kw = 0; price = 0; held = [] }

-- what came in of a facility of which nothing did
abbrev pub nothing_filed : Filed
nothing_filed = record { measured = None; claim = claim.None }

abbrev pub facility_at : Register → ℕ → Facility
facility_at r f = slice_index_or r.items f no_facility

abbrev pub award_at : Trade → ℕ → Award
award_at t i = slice_index_or t.items i no_award

-- what came in of the facility at place f
abbrev pub filed_at : List Filed → ℕ → Filed
filed_at month f = slice_index_or month f nothing_filed

-- the kW that each facility holds under an award
abbrev pub holdings : Award → List ℕ
holdings a = a.held

-- those of the facility at place f
abbrev pub held_under : ℕ → Award → ℕ
held_under f a = slice_index (holdings a) f

-- the kW that the facility at place f holds over all awards given out
abbrev pub held_in_all : Trade → ℕ → ℕ
held_in_all t f = sum_by (held_under f) t.items

-- the month under way; 1 before the year, and 12 after it
abbrev pub month_of : Stage → ℕ
month_of Unopened = 1
month_of (Month m p) = m
month_of Finished = 12

-- the limits of an award's figures
abbrev pub Limited : Award → Type 0
Limited a = (1_000 ≤ a.kw) × (a.kw ≤ 1_000_000) × (1 ≤ a.price) × (a.price ≤ 100_000)

-- a month of the year
abbrev pub Dated : ℕ → Type 0
Dated m = (1 ≤ m) × (m ≤ 12)

-- no more than 64 facilities and 32 awards are given out
abbrev pub Sized : Book → Type 0
Sized b = (length b.register.items ≤ 64) × (length b.trade.items ≤ 32)

-- the arrays have their lengths
abbrev pub Shaped : Book → Type 0
Shaped b = (length b.month ≡ 64) × (length b.lines ≡ 12)

-- each month has a line for each facility
abbrev pub Lined : Book → Type 0
Lined b = (m : ℕ) → m < 12 → length (slice_index_or b.lines m []) ≡ 64

-- the line at place f of the month at place m; nothing where there is no such place
abbrev pub line_in : Book → ℕ → ℕ → Line
line_in b m f = slice_index_or (slice_index_or b.lines m []) f (record { right = 0; penalty = 0 })

-- a line's right has its limit, and its penalty takes no more than the right
abbrev pub Bounded : Line → Type 0
Bounded l = (l.right ≤ 1_000_000_000) × (l.penalty ≤ l.right)

-- so has every line that is booked
abbrev pub Booked : Book → Type 0
Booked b = (m f : ℕ) → Bounded (line_in b m f)

-- no more than 32 awards are given out
abbrev pub Placed : Trade → Type 0
Placed t = length t.items ≤ 32

-- each award given out has a place for each facility
abbrev pub Wide : Trade → Type 0
Wide t = (i : ℕ) → i < length t.items → length (holdings (award_at t i)) ≡ 64

-- the figures of each award given out are within their limits
abbrev pub Priced : Trade → Type 0
Priced t = (i : ℕ) → i < length t.items → Limited (award_at t i)

-- the kW held under each award given out add up to those awarded
abbrev pub Whole : Trade → Type 0
Whole t = (i : ℕ) → i < length t.items → sum (holdings (award_at t i)) ≡ (award_at t i).kw

-- firm power has its limit
abbrev pub Firm : Register → Type 0
Firm r = (f : ℕ) → (facility_at r f).firm ≤ 1_000_000

-- no facility holds more than its firm power
abbrev pub Within : Book → Type 0
Within b = (f : ℕ) → held_in_all b.trade f ≤ (facility_at b.register f).firm
