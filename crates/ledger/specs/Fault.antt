-- What the fault of a refused call says, and how it is printed. Serves src/fault.rt.
use Rattle.std.specs.Prelude.{ℕ, List, codes}
use Rattle.calendar.specs.Faults as calendar
use Rattle.calendar.specs.Faults.{refusal_text}
use Rattle.metering.specs.Fault as metering
use Rattle.sharing.specs.Fault as sharing
use Rattle.ledger.specs.Refusals as own
use Rattle.ledger.specs.declared.fault.LedgerFault.{LedgerFault}
use Rattle.ledger.specs.declared.fault.LedgerFault.TheVariants as fault

-- the refusal's number
abbrev pub number : LedgerFault → ℕ
number (fault.Calendar f) = calendar.number f
number (fault.Metering f) = metering.number f
number (fault.Sharing f) = sharing.number f
number (fault.Own r) = own.number r

-- its place, counted from 1, or 0
abbrev pub place : LedgerFault → ℕ
place (fault.Calendar f) = calendar.place f
place (fault.Metering f) = metering.place f
place (fault.Sharing f) = sharing.place f
place (fault.Own r) = 0

-- the layer that refused, by its name
abbrev pub layer : LedgerFault → List ℕ
layer (fault.Calendar f) = calendar.layer f
layer (fault.Metering f) = metering.layer f
layer (fault.Sharing f) = sharing.layer f
layer (fault.Own r) = codes "ledger"

-- the refusal as it is printed
abbrev pub text : LedgerFault → List ℕ
text f = refusal_text (number f) (layer f) (place f)
