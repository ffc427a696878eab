use Rattle.std.proofs.Common.{◌≡◌, ◌*◌, ◌++◌, take, drop}
use Rattle.std.specs.List.{flat_map}
use Rattle.statement.specs.Encoding.{right_bytes, penalty_bytes}
use Rattle.statement.proofs.writing.put_amounts.Given as goal

abbrev pub invariant-loop-place : goal.invariant-loop-place
invariant-loop-place l =
    (l.rights ≡ flat_map right_bytes (take l.place l.lines) ++ drop (8 * l.place) l.initial.rights)
    × (l.penalties ≡ flat_map penalty_bytes (take l.place l.lines) ++ drop (8 * l.place) l.initial.penalties)
