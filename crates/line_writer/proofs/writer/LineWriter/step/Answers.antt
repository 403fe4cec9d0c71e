use Rattle.std.proofs.Common.{arith}
use Rattle.line_writer.{specs.Writing.{IsWriting, IsProgress}, proofs.Rounds.{round-made, sound-writing, unused, worn, writing-with, progress-with}}
use Rattle.line_writer.proofs.writer.LineWriter.step.Goals as goal

-- the round leads to the next phase that has a cell to pulse
advanced : (g : _) (c : goal.After-result-1 g) → IsWriting c.advance-self.new.self ((g.A.CellArray.state c.step-turn.new.array).line c.args.line)
    × IsProgress c.advance-self.new.self ((g.A.CellArray.state c.step-turn.new.array).line c.args.line) c.advance-self.result
advanced g c =
    c.advance-self.ensures.line ((g.A.CellArray.state c.step-turn.new.array).line c.args.line)
    (round-made c.args.self.now c.args.line c.args.tick c.step-turn.new.self (g.A.CellArray.state c.args.array.now) (g.A.CellArray.state c.step-turn.new.array)
    c.requires.layout c.step-turn.ensures.round c.step-turn.ensures.line c.requires.writes.writing)
    c.step-turn.ensures.status c.step-turn.ensures.stuck

pub returns-clause-writes : goal.returns-clause-writes
returns-clause-writes g c =
    let line = (g.A.CellArray.state c.step-turn.new.array).line c.args.line in
    record {
      writing = writing-with c.advance-self.new.self line c.advance-self.result ((advanced g c).0);
      answer = progress-with c.advance-self.new.self line c.advance-self.result c.advance-self.result ((advanced g c).1);
    }

pub returns-clause-progress : goal.returns-clause-progress
returns-clause-progress g c =
    progress-with c.advance-self.new.self ((g.A.CellArray.state c.step-turn.new.array).line c.args.line) c.advance-self.result c.advance-self.result ((advanced g c).1)

pub returns-clause-sound : goal.returns-clause-sound
returns-clause-sound g c = sound-writing c.advance-self.new.self ((g.A.CellArray.state c.step-turn.new.array).line c.args.line) ((advanced g c).0)

pub returns-clause-unused : goal.returns-clause-unused
returns-clause-unused g c = unused c.args.self.now ((g.A.CellArray.state c.args.array.now).line c.args.line) c.requires.layout c.requires.writes.writing

pub returns-clause-worn : goal.returns-clause-worn
returns-clause-worn g c = worn c.advance-self.new.self ((g.A.CellArray.state c.step-turn.new.array).line c.args.line) c.advance-self.result ((advanced g c).1)

pub step-turn-requires : goal.step-turn-requires
step-turn-requires g c = grind arith

pub advance-self-requires : goal.advance-self-requires
advance-self-requires g c = grind arith

pub returns-clause-is : goal.returns-clause-is
returns-clause-is g c = grind arith

pub returns-clause-round : goal.returns-clause-round
returns-clause-round g c = grind arith

pub returns-clause-bytes : goal.returns-clause-bytes
returns-clause-bytes g c = grind arith

pub returns-clause-steps : goal.returns-clause-steps
returns-clause-steps g c = grind arith
