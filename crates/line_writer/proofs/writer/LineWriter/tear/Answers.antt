use Rattle.std.proofs.Common.{arith}
use Rattle.line_writer.proofs.Rounds.{sound-torn, unused}
use Rattle.line_writer.proofs.writer.LineWriter.tear.Goals as goal

pub returns-clause-sound : goal.returns-clause-sound
returns-clause-sound g c =
    sound-torn c.args.self c.args.line (g.A.CellArray.state c.args.array.now) (g.A.CellArray.state c.tear.new.array) c.requires.layout c.tear.ensures c.requires.writes.writing

pub returns-clause-unused : goal.returns-clause-unused
returns-clause-unused g c = unused c.args.self ((g.A.CellArray.state c.args.array.now).line c.args.line) c.requires.layout c.requires.writes.writing

pub tear-requires : goal.tear-requires
tear-requires g c = grind arith

pub returns-clause-tear : goal.returns-clause-tear
returns-clause-tear g c = grind arith
