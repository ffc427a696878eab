-- What a refusal of a statement says, and how it is printed. Serves src/fault.rt.
use Rattle.std.specs.Prelude.{ℕ, List, codes}
use Rattle.calendar.specs.Faults.{refusal_text}
use Rattle.statement.specs.declared.fault.StatementFault.{StatementFault}
use Rattle.statement.specs.declared.fault.StatementFault.TheVariants.{Length, Limits, Buffer}

-- the refusal's number
abbrev pub number : StatementFault → ℕ
number Length = 25
number Limits = 26
number Buffer = 27

-- no byte and no line is to blame
abbrev pub place : StatementFault → ℕ
place _ = 0

-- the layer that refused, by its name
abbrev pub layer : StatementFault → List ℕ
layer _ = codes "statement"

-- the refusal as it is printed
abbrev pub text : StatementFault → List ℕ
text f = refusal_text (number f) (layer f) (place f)
