-- Rows with charges put in, one after another.
use Rattle.std.proofs.Common.{◌≡◌, ℕ, zero, suc, ◌+◌, ◌<◌, ◌≤◌, List, [], ◌∷◌, length, get_or, take, set, sym, refl, ap, ◌∙◌, add-one, arith}
use Rattle.std.proofs.lemmas.List.{take_all, length-map, get_or-map}
use Rattle.sharing.specs.declared.rows.Row.{Row}
use Rattle.sharing.specs.Rows.{with_charge, mwhs, charges_in, charged}

-- what stands for a row past the end of a list
abbrev pub no_row : Row
no_row = record { id = 0; mwh = 0; charge = 0 }

pub charged_none : (rs : List Row) → charged rs [] ≡ rs
charged_none [] = refl
charged_none (r ∷ rs) = refl

pub charges_in_charged : (rs : List Row) (cs : List ℕ) → length cs ≡ length rs → charges_in (charged rs cs) ≡ cs
charges_in_charged [] [] e = refl
charges_in_charged [] (c ∷ cs) e = absurd (omega arith)
charges_in_charged (r ∷ rs) [] e = absurd (omega arith)
charges_in_charged (r ∷ rs) (c ∷ cs) e = ap (λ t. c ∷ t) (charges_in_charged rs cs (omega arith))

-- a row that no charge has come to is as it was
pub get_or-charged_past : (rs : List Row) (cs : List ℕ) (i : ℕ) → get_or (charged rs (take i cs)) i no_row ≡ get_or rs i no_row
get_or-charged_past [] cs i = refl
get_or-charged_past (r ∷ rs) cs zero = refl
get_or-charged_past (r ∷ rs) [] (suc i) = refl
get_or-charged_past (r ∷ rs) (c ∷ cs) (suc i) = get_or-charged_past rs cs i

charged_suc : (rs : List Row) (cs : List ℕ) (i : ℕ) → i < length rs → i < length cs → set (charged rs (take i cs)) i (with_charge (get_or rs i no_row) (get_or cs i 0)) ≡ charged rs (take (suc i) cs)
charged_suc [] cs i h k = absurd (omega arith)
charged_suc (r ∷ rs) [] i h k = absurd (omega arith)
charged_suc (r ∷ rs) (c ∷ cs) zero h k = ap (λ t. with_charge r c ∷ t) (sym (charged_none rs))
charged_suc (r ∷ rs) (c ∷ cs) (suc i) h k = ap (λ t. with_charge r c ∷ t) (charged_suc rs cs i (omega arith) (omega arith))

-- charges put in later take the place of earlier ones
pub charged_again : (rs : List Row) (cs ds : List ℕ) → length ds ≡ length rs → charged (charged rs cs) ds ≡ charged rs ds
charged_again [] cs ds e = refl
charged_again (r ∷ rs) cs [] e = absurd (omega arith)
charged_again (r ∷ rs) [] (d ∷ ds) e = refl
charged_again (r ∷ rs) (c ∷ cs) (d ∷ ds) e = ap (λ t. with_charge r d ∷ t) (charged_again rs cs ds (omega arith))

-- the charge of a row of the list
pub charge_at : (rs : List Row) (i : ℕ) → i < length rs → get_or (charges_in rs) i 0 ≡ (get_or rs i no_row).charge
charge_at rs i h = get_or-map (λ r. r.charge) rs i no_row 0 h

pub length-charges_in : (rs : List Row) → length (charges_in rs) ≡ length rs
length-charges_in rs = length-map rs (λ r. r.charge)

-- the MWh of a row of the list
pub mwh_at : (rs : List Row) (i : ℕ) → i < length rs → get_or (mwhs rs) i 0 ≡ (get_or rs i no_row).mwh
mwh_at rs i h = get_or-map (λ r. r.mwh) rs i no_row 0 h

pub length-mwhs : (rs : List Row) → length (mwhs rs) ≡ length rs
length-mwhs rs = length-map rs (λ r. r.mwh)

-- A loop that charges the rows rs: after i turns it has ys, the first i charges put in.
module _ (rs ys : List Row) (cs : List ℕ) (i : ℕ) (so_far : ys ≡ charged rs (take i cs)) where
  -- the row at i is still as it was
  pub row_now : get_or ys i no_row ≡ get_or rs i no_row
  row_now = ap (λ l. get_or l i no_row) so_far ∙ get_or-charged_past rs cs i

  -- and so are its MWh
  pub mwh_now : i < length rs → (get_or ys i no_row).mwh ≡ get_or (mwhs rs) i 0
  mwh_now h = ap (λ r. r.mwh) row_now ∙ sym (mwh_at rs i h)

  -- and its charge
  pub charge_now : i < length rs → (get_or ys i no_row).charge ≡ get_or (charges_in rs) i 0
  charge_now h = ap (λ r. r.charge) row_now ∙ sym (charge_at rs i h)

  -- one row more
  pub charged_more : (row : Row) (v : ℕ) → row ≡ with_charge (get_or ys i no_row) v → v ≡ get_or cs i 0 → length cs ≡ length rs → i < length rs → set ys i row ≡ charged rs (take (i + 1) cs)
  charged_more row v put is long h =
      let k : i < length cs = omega arith in
      rw (put, row_now, so_far, is) (charged_suc rs cs i h k ∙ ap (λ n. charged rs (take n cs)) (sym (add-one i)))

  -- the end
  pub charged_all : length cs ≡ length rs → length rs ≤ i → ys ≡ charged rs cs
  charged_all long h = let k : length cs ≤ i = omega arith in so_far ∙ ap (charged rs) (take_all i cs k)
