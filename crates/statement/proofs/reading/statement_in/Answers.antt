use Rattle.std.proofs.Common.{rules, ◌≡◌, true, false, sym, ◌∙◌}
use Rattle.std.specs.List.{All}
use Rattle.statement.specs.Limits.{within}
use Rattle.statement.specs.Encoding.{encoding}
use Rattle.statement.specs.Reading.{in_form}
use Rattle.statement.specs.Parts.{lines_of, Fits}
use Rattle.statement.proofs.Exact.{none}
use Rattle.statement.proofs.reading.statement_in.Goals as goal

pub returns-then-not-is_within : goal.returns-then-not-is_within
returns-then-not-is_within c =
    let bytes = c.args.bytes.now in
    let m = c.in_ok-parts.parts.month in
    let ls = lines_of c.in_ok-parts.parts.rights.now c.in_ok-parts.parts.penalties.now in
    let whole : (in_form bytes ≡ true) × (bytes ≡ encoding m ls) × All Fits ls = search rules in
    let outside : within m ls ≡ false = sym c.is_within.ensures ∙ c.if-not-is_within.true in
    (whole.0, none bytes m ls whole.1 whole.2 outside)
