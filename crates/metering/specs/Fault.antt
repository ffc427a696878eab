-- What a refusal of a report says, and how it is printed. Serves src/fault.rt.
use Rattle.std.specs.Prelude.{ℕ, List, codes, unwrap_or}
use Rattle.calendar.specs.Faults.{refusal_text}
use Rattle.metering.specs.declared.fault.MeteringFault.{MeteringFault}
use Rattle.metering.specs.declared.fault.MeteringFault.TheVariants as fault

-- the refusal's number
abbrev pub number : MeteringFault → ℕ
number fault.Records = 17
number (fault.Test p) = 18

-- the hour of the test that is refused, counted from 1, or 0
abbrev pub place : MeteringFault → ℕ
place (fault.Test p) = unwrap_or p 0
place _ = 0

-- the layer that refused, by its name
abbrev pub layer : MeteringFault → List ℕ
layer _ = codes "metering"

-- the refusal as it is printed
abbrev pub text : MeteringFault → List ℕ
text f = refusal_text (number f) (layer f) (place f)
