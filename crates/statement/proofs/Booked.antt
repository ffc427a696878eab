-- Lines as a ledger books them are within the limits of a statement.
use Rattle.std.proofs.Common.{◌≡◌, ℕ, ◌≤◌, true, List, length, get_or, rules, tests}
use Rattle.std.specs.List.{list_all, All}
use Rattle.std.proofs.lemmas.List.Sums.{list_all-from_AllPass}
use Rattle.ledger.specs.declared.state.Line.{Line}
use Rattle.ledger.specs.Form.{Bounded, Dated}
use Rattle.statement.specs.Limits.{bounded, within}

booked_line : (l : Line) → Bounded l → bounded l ≡ true
booked_line l kept = search (rules, tests, kept)

pub booked : (m : ℕ) (ls : List Line) → Dated m → length ls ≤ 64 → All Bounded ls → within m ls ≡ true
booked m ls dated few kept =
    let each : list_all bounded ls ≡ true = list_all-from_AllPass bounded ls (λ k d inside. booked_line (get_or ls k d) (kept k d inside)) in
    search (rules, tests, each, dated, few)
