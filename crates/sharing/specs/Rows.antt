-- What a list of rows holds, and the rows with charges put in. Serves src/rows.rt.
use Rattle.std.specs.Prelude.{ℕ, List, [], ◌∷◌, map}
use Rattle.sharing.specs.declared.rows.Row.{Row}

-- the MWh of each row
abbrev pub mwhs : List Row → List ℕ
mwhs rows = map (λ r. r.mwh) rows

-- the charge of each row
abbrev pub charges_in : List Row → List ℕ
charges_in rows = map (λ r. r.charge) rows

-- the row with another charge
abbrev pub with_charge : Row → ℕ → Row
with_charge r c = record { id = r.id; mwh = r.mwh; charge = c }

-- the rows with the charges put in, the first into the first row; rows that no charge is left for stay as they are
abbrev pub charged : List Row → List ℕ → List Row
charged [] cs = []
charged (r ∷ rs) [] = r ∷ rs
charged (r ∷ rs) (c ∷ cs) = with_charge r c ∷ charged rs cs
