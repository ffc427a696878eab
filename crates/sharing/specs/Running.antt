-- The running rule. Serves src/running.rt.
use Rattle.std.specs.Prelude.{sum}
use Rattle.sharing.specs.Rule.{RuleMeaning}
use Rattle.sharing.specs.Split.{split}

-- a row's weight is its MWh, and the charges are the running split of the total over the MWh: 100 over three rows of 1 MWh
-- is 33, 33, 34
abbrev pub running_meaning : RuleMeaning
running_meaning = record { weights = λ total ms. ms; charges = λ total ms. split total (sum ms) ms }
