use Rattle.std.proofs.Common.{rules}
use Rattle.year.proofs.statements.write_lines.Goals as goal

pub unwrap-requires : goal.unwrap-requires
unwrap-requires c =
    let never = c.write.ensures.booked c.requires.dated c.requires.few c.requires.bounded in
    search (rules, never)
