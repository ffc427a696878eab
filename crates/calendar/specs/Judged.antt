-- How a table of refusals is read: from the top, the first that applies.
use Rattle.std.specs.Prelude.{Bool, cond, List, [], ◌∷◌, Ok, Err, Result}

-- the refusal of the first row that applies, or acceptance with its value
abbrev pub judged : {A E : Type 0} → List (Bool × E) → A → Result A E
judged [] a = Ok a
judged (r ∷ rs) a = cond r.0 (Err r.1) (judged rs a)

-- what stands after a call: changed where it was accepted, and as it stood where it was refused
abbrev pub kept_or : {A B E : Type 0} → Result A E → B → B → B
kept_or (Ok _) changed stood = changed
kept_or (Err _) changed stood = stood
