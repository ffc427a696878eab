use Rattle.std.proofs.Common.{◌+◌, ◌*◌, get_or, ap, ◌∙◌, refl}
use Rattle.std.specs.List.{splice}
use Rattle.ledger.specs.Making.{no_line}
use Rattle.statement.specs.Encoding.{right_bytes, penalty_bytes}
use Rattle.statement.proofs.Amounts.{one_more}
use Rattle.statement.proofs.writing.put_amounts.Goals as goal

pub loop-place-preserved : goal.loop-place-preserved
loop-place-preserved c =
    let ls = c.args.lines.now in
    let i = c.loop-place.place in
    let so_far = c.loop-place.invariant in
    let line = get_or ls i no_line in (
      c.put_amount.ensures ∙ ap (λ w. splice w (8 * i) (8 * i + 8) (right_bytes line)) so_far.0 ∙ one_more right_bytes (λ l. refl) ls i no_line c.loop-place-test.true c.args.rights.now,
      c.put_amount-in-loop-place.ensures ∙ ap (λ w. splice w (8 * i) (8 * i + 8) (penalty_bytes line)) so_far.1 ∙ one_more penalty_bytes (λ l. refl) ls i no_line c.loop-place-test.true c.args.penalties.now,
    )
