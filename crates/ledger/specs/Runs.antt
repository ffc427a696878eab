-- Runs of calls: which journals are recorded of which ledgers. Serves every call that may change a ledger.
use Rattle.std.specs.Prelude.{◌≡◌, [], ◌∷◌}
use Rattle.sharing.specs.Rule.{IsLawful}
use Rattle.ledger.specs.declared.state.Book.{Book}
use Rattle.ledger.specs.declared.kept.Ledger.{Ledger}
use Rattle.ledger.specs.Making.{blank}
use Rattle.ledger.specs.Opening.{Opens}
use Rattle.ledger.specs.Registering.{Registers}
use Rattle.ledger.specs.Switching.{Switches}
use Rattle.ledger.specs.Awarding.{Awards}
use Rattle.ledger.specs.Ceding.{Cedes}
use Rattle.ledger.specs.Cutting.{CutsOff}
use Rattle.ledger.specs.Reporting.{Reports}
use Rattle.ledger.specs.Claiming.{MakesClaim, Dismisses}
use Rattle.ledger.specs.Upholding.{Upholds}
use Rattle.ledger.specs.Advancing.{Advances}
use Rattle.ledger.specs.Closing.{Closes}
use Rattle.ledger.specs.Entries.{Entry, Journal, opening, registering, switching, awarding, ceding, cutting, reporting, advancing, claiming, dismissing, upholding, closing}

-- What a call's contract allows, of the book before it, of its entry, and of the book after it.
abbrev pub Allowed : Book → Entry → Book → Type 0
Allowed b (opening year firsts lengths r) b' = Opens b year firsts lengths r b'
Allowed b (registering letter modules count access r) b' = Registers b letter modules count access r b'
Allowed b (switching f on r) b' = Switches b f on r b'
Allowed b (awarding f kw price r) b' = Awards b f kw price r b'
Allowed b (ceding a giver taker kw r) b' = Cedes b a giver taker kw r b'
Allowed b (cutting r) b' = CutsOff b r b'
Allowed b (reporting f x r) b' = Reports b f x r b'
Allowed b (advancing rule rows r left) b' = IsLawful rule × Advances b rule rows r b' left
Allowed b (claiming f r) b' = MakesClaim b f r b'
Allowed b (dismissing f r) b' = Dismisses b f r b'
Allowed b (upholding f x r) b' = Upholds b f x r b'
Allowed b (closing rule rows r left) b' = IsLawful rule × Closes b rule rows r b' left

-- A journal is recorded of a ledger: the empty one of a ledger as it is made, and, with the entry of one more call on top,
-- of the ledger that this call left.
pub data Recorded : Journal → Ledger → Type 0 where
  made : (l : Ledger) → l.book ≡ blank → Recorded [] l
  noted : (j : Journal) (e : Entry) (l after : Ledger) → Recorded j l → Allowed l.book e after.book → Recorded (e ∷ j) after
