-- The names of the built-in rules. Serves src/closing.rt.
use Rattle.std.specs.Prelude.{ℕ, List, codes}
use Rattle.year.specs.declared.closing.Rule.{Rule}
use Rattle.year.specs.declared.closing.Rule.TheVariants as rule

-- what is printed of a rule
abbrev pub rule_name : Rule → List ℕ
rule_name rule.Running = codes "running"
rule_name rule.Remainder = codes "remainder"
