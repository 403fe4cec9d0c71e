use Rattle.std.proofs.Common.{arith}
use Rattle.line_writer.proofs.Rounds.{going}
use Rattle.line_writer.proofs.writer.LineWriter.status.Goals as goal

pub returns-clause-left : goal.returns-clause-left
returns-clause-left g c line h more =
    let t = (going c.args.self.now line more h).rounds in omega arith
