-- The hours of a span, the first and the others.
use Rattle.std.proofs.Common.{◌≡◌, ℕ, suc, ◌+◌, ◌-◌, ◌<◌, ◌≤◌, [], ◌∷◌, ap, arith}
use Rattle.std.specs.List.{range_with_len}
use Rattle.calendar.specs.Runs.{span}

pub span_none : (from to : ℕ) → to ≤ from → span from to ≡ []
span_none from to past = let none : to - from ≡ 0 = omega arith in ap (range_with_len from) none

pub span_some : (from to : ℕ) → from < to → span from to ≡ from ∷ span (from + 1) to
span_some from to within =
    let one_more : to - from ≡ suc (to - (from + 1)) = omega arith in
    ap (range_with_len from) one_more
