use Rattle.std.proofs.Common.{arith, ◌≡◌, ◌+◌, ◌++◌, suc, length, take, drop, get_or, set, ap, sym, ◌∙◌}
use Rattle.ledger.specs.Making.{no_line}
use Rattle.statement.specs.Parts.{lines_of}
use Rattle.statement.proofs.Chunks.{length-lines_of}
use Rattle.statement.proofs.Filling.{fill_more, fill_all, line_at}
use Rattle.statement.proofs.parts.Parts.fill.Goals as goal

pub bounds-lines-place : goal.bounds-lines-place
bounds-lines-place c =
    let this = c.args.self.now in
    omega (arith, c.requires, length-lines_of this.rights.now this.penalties.now this.even, c.loop-place-test.true, c.loop-place.auto.lines)

pub loop-place-preserved : goal.loop-place-preserved
loop-place-preserved c =
    let this = c.args.self.now in
    let ls = lines_of this.rights.now this.penalties.now in
    let old = c.args.lines.now in
    let i = c.loop-place.place in
    let many : length ls ≡ length this.rights.now = length-lines_of this.rights.now this.penalties.now this.even in
    let inside = c.loop-place-test.true in
    let next = c.line_of.ensures ∙ sym (line_at this.rights.now this.penalties.now i no_line this.even inside) in
    ap (set c.loop-place.lines i) next ∙ ap (λ w. set w i (get_or ls i no_line)) c.loop-place.invariant ∙ fill_more ls old i no_line (omega (arith, many, inside)) (omega (arith, many, inside, c.requires)) ∙ ap (λ k. take k ls ++ drop k old) {x = suc i} {y = i + 1} (omega arith)

pub returns : goal.returns
returns c =
    let this = c.args.self.now in
    let ls = lines_of this.rights.now this.penalties.now in
    let all : c.loop-place.place ≡ length ls = omega (arith, length-lines_of this.rights.now this.penalties.now this.even, c.loop-place-test.false, c.loop-place.auto.place-end) in
    c.loop-place.invariant ∙ fill_all ls c.args.lines.now c.loop-place.place all
