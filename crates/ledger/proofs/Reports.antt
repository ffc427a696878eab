-- What the book of a report that was measured is afterwards.
use Rattle.std.proofs.Common.{◌≡◌, ℕ, Ok, Result, ap, ◌∙◌}
use Rattle.metering.specs.declared.measuring.Measured.{Measured}
use Rattle.metering.specs.declared.fault.MeteringFault.{MeteringFault}
use Rattle.ledger.specs.declared.state.Book.{Book}

-- what is put of facility n, which is f, by what its report came to
pub by_its_report : (put : ℕ → Result Measured MeteringFault → Book) (m : ℕ → Result Measured MeteringFault) (f n : ℕ) (v : Measured) → n ≡ f → Ok v ≡ m n → put n (Ok v) ≡ put f (m f)
by_its_report put m f n v own is = ap (put n) is ∙ ap (λ k. put k (m k)) own
