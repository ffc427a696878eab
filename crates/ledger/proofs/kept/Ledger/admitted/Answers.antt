use Rattle.ledger.specs.Course.{course, moved}
use Rattle.ledger.specs.Numbers.{facility_given}
use Rattle.ledger.proofs.JudgedRows.{refused_early}
use Rattle.ledger.proofs.kept.Ledger.admitted.Goals as goal

pub returns-in_err-turn : goal.returns-in_err-turn
returns-in_err-turn c =
    let b = c.args.self.now.book in
    refused_early (course c.args.call b.stage) (facility_given b c.args.facility) (moved c.args.call b.stage) c.args.facility (λ n. n.number) c.in_err-turn.field-0.0 c.from_residual.result c.in_err-turn.ensures c.from_residual.ensures.1
