-- What a refusal of a filling says, and how a refusal is printed. Serves src/fault.rt.
use Rattle.std.specs.Prelude.{ℕ, List, ◌++◌, codes}
use Rattle.std.specs.Fmt.{decimal}
use Rattle.calendar.specs.declared.fault.CalendarFault.{CalendarFault}
use Rattle.calendar.specs.declared.fault.CalendarFault.TheVariants as fault

-- the refusal's number
abbrev pub number : CalendarFault → ℕ
number fault.YearHours = 3
number fault.Sizes = 4
number (fault.Run p) = 4
number fault.Share = 5

-- the run that is refused, counted from 1, or 0
abbrev pub place : CalendarFault → ℕ
place (fault.Run p) = p
place _ = 0

-- the layer that refused, by its name
abbrev pub layer : CalendarFault → List ℕ
layer _ = codes "calendar"

-- how a refusal of any layer is printed, as "18, layer metering, place 2"
abbrev pub refusal_text : (number : ℕ) (layer : List ℕ) (place : ℕ) → List ℕ
refusal_text n name p = decimal n ++ codes ", layer " ++ name ++ codes ", place " ++ decimal p

-- the refusal as it is printed
abbrev pub text : CalendarFault → List ℕ
text f = refusal_text (number f) (layer f) (place f)
