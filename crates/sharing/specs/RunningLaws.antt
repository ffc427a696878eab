-- The running rule is lawful.
use Rattle.std.specs.Prelude.{sum, refl}
use Rattle.sharing.specs.Rule.{IsLawful}
use Rattle.sharing.specs.Running.{running_meaning}
use Rattle.sharing.specs.SplitLaws.{length-split, split_whole, split_near, split_nothing}

pub running_lawful : IsLawful running_meaning
running_lawful total ms ok = record {
  weight_each = refl;
  charge_each = length-split total (sum ms) ms;
  bounded = ok.mwh;
  adds_up = split_whole total ms;
  near = λ pos i h. split_near total (sum ms) ms i pos h;
  nothing = λ none nil i h. rw nil (split_nothing (sum ms) ms i h);
}
