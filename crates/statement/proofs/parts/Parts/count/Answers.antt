use Rattle.std.proofs.Common.{sym}
use Rattle.statement.proofs.Chunks.{length-lines_of}
use Rattle.statement.proofs.parts.Parts.count.Goals as goal

pub returns : goal.returns
returns c = sym (length-lines_of c.args.self.now.rights.now c.args.self.now.penalties.now c.args.self.now.even)
