-- What a refusal of a sharing rule says, and how it is printed. Serves src/fault.rt.
use Rattle.std.specs.Prelude.{ℕ, List, ◌++◌, codes}
use Rattle.std.specs.Fmt.{decimal}
use Rattle.sharing.specs.declared.fault.SharingFault.{SharingFault}
use Rattle.sharing.specs.declared.fault.SharingFault.TheVariants.{NoWeight}

-- the refusal's number
abbrev pub number : SharingFault → ℕ
number NoWeight = 23

-- no row is to blame
abbrev pub place : SharingFault → ℕ
place _ = 0

-- the layer that refused, by its name
abbrev pub layer : SharingFault → List ℕ
layer _ = codes "sharing"

-- the refusal as it is printed, "23, layer sharing, place 0"
abbrev pub text : SharingFault → List ℕ
text f = decimal (number f) ++ codes ", layer " ++ layer f ++ codes ", place " ++ decimal (place f)
