-- The register of a book is that of its journal: each facility's firm power, and whether it is on.
use Rattle.std.proofs.Common.{◌≡◌, ℕ, ◌+◌, ◌-◌, ◌<◌, ◌≤◌, Bool, false, cond, eqb, length, sym, refl, ap, ◌∙◌, arith}
use Rattle.std.proofs.lemmas.List.{length-set, length_push}
use Rattle.std.proofs.lemmas.Bool.{cond-true, cond-false, eq-eqb, ne_eqb}
use Rattle.ledger.specs.declared.state.Book.{Book}
use Rattle.ledger.specs.declared.state.Facility.{Facility}
use Rattle.ledger.specs.Form.{Register, no_facility, facility_at}
use Rattle.ledger.specs.Registering.{registered}
use Rattle.ledger.specs.Switching.{set_on, switched}
use Rattle.ledger.proofs.Places.{each_set, each_push}

-- n facilities of this firm power, on or off; numbers from 1
pub record Registers (n : ℕ) (firm : ℕ → ℕ) (on : ℕ → Bool) (r : Register) : Type 0 where
  pub count : length r.items ≡ n
  pub firms : (i : ℕ) → (facility_at r i).firm ≡ firm (i + 1)
  pub switches : (i : ℕ) → (facility_at r i).on ≡ on (i + 1)
  pub off : (f : ℕ) → length r.items < f → on f ≡ false

module _ (n : ℕ) (firm : ℕ → ℕ) (on : ℕ → Bool) (b : Book) (old : Registers n firm on b.register) where
  -- one facility more, switched off
  pub registered_registers : (letter power : ℕ) → Registers (n + 1) (λ f. cond (eqb f (length b.register.items + 1)) power (firm f)) on (registered b letter power).register
  registered_registers letter power =
      let xs = b.register.items in
      let last = length xs + 1 in
      let new : Facility = record { letter = letter; firm = power; on = false } in
      record {
        count = length_push xs new ∙ ap (λ x. x + 1) old.count;
        firms =
            each_push (λ i x. x.firm ≡ cond (eqb (i + 1) last) power (firm (i + 1))) xs new no_facility (sym (cond-true (eqb last last) power (firm last) (eq-eqb last last refl))) (λ i other.
            old.firms i ∙ sym (cond-false (eqb (i + 1) last) power (firm (i + 1)) (ne_eqb (i + 1) last (λ same. other (omega (arith, same))))));
        switches = each_push (λ i x. x.on ≡ on (i + 1)) xs new no_facility (sym (old.off last (omega arith))) (λ i _. old.switches i);
        off = λ f more. old.off f (omega (arith, more, length_push xs new));
      }

  -- one facility switched, and no other
  pub switched_registers : (f : ℕ) (v : Bool) → 0 < f → f ≤ length b.register.items → Registers n firm (λ g. cond (eqb g f) v (on g)) (switched b f v).register
  switched_registers f v from to =
      let xs = b.register.items in
      let new = set_on (facility_at b.register (f - 1)) v in
      let place : f - 1 + 1 ≡ f = omega (arith, from) in
      let inside : f - 1 < length xs = omega (arith, from, to) in
      let long = length-set xs (f - 1) new in
      record {
        count = long ∙ old.count;
        firms = each_set (λ i x. x.firm ≡ firm (i + 1)) xs (f - 1) new no_facility inside (old.firms (f - 1)) (λ i _. old.firms i);
        switches =
            each_set (λ i x. x.on ≡ cond (eqb (i + 1) f) v (on (i + 1))) xs (f - 1) new no_facility inside (sym (cond-true (eqb (f - 1 + 1) f) v (on (f - 1 + 1)) (eq-eqb (f - 1 + 1) f place))) (λ i other.
            old.switches i ∙ sym (cond-false (eqb (i + 1) f) v (on (i + 1)) (ne_eqb (i + 1) f (λ same. other (omega (arith, same))))));
        off = λ g more. cond-false (eqb g f) v (on g) (ne_eqb g f (λ same. omega (arith, same, more, to, long))) ∙ old.off g (omega (arith, more, long));
      }
