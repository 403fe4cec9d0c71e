use Rattle.std.proofs.Common.{arith, sym, ◌∙◌}
use Rattle.cell_rows.specs.Rows.{cell}
use Rattle.line_writer.proofs.{Going.{going-on, done, none-wrong, wrong-held, point-phase}, Settling.pointed}
use Rattle.line_writer.proofs.writer.LineWriter.advance.Goals as goal

pub returns-in_default-clause-line : goal.returns-in_default-clause-line
returns-in_default-clause-line g c line h status left = going-on c.args.self.now line c.args.turn.now c.in_default.not-Settled h status

pub returns-in-Clear-clause-line : goal.returns-in-Clear-clause-line
returns-in-Clear-clause-line g c line h status left =
    let (all, mask) = done c.args.self.now line c.args.turn.now c.in-Settled.wrong c.in-Settled.is h status left in c.cleared.ensures.line line all mask

pub returns-in-Clear-clause-begun : goal.returns-in-Clear-clause-begun
returns-in-Clear-clause-begun g c line h status left phase zero =
    let (all, mask) = done c.args.self.now line c.args.turn.now c.in-Settled.wrong c.in-Settled.is h status left in
    c.cleared.ensures.begun line all mask (none-wrong c.args.self.now.prog zero all.settled)

pub returns-in-Fill-clause-line : goal.returns-in-Fill-clause-line
returns-in-Fill-clause-line g c line h status left =
    let (all, mask) = done c.args.self.now line c.args.turn.now c.in-Settled.wrong c.in-Settled.is h status left in c.filled.ensures.line line all

pub returns-in-Point-clause-line : goal.returns-in-Point-clause-line
returns-in-Point-clause-line g c line h status left =
    let self = c.args.self.now in
    let (all, mask) = done self line c.args.turn.now c.in-Settled.wrong c.in-Settled.is h status left in
    let phase = point-phase self line c.in-Point.is h in
    c.switch.ensures.line line (record {
      seen = h.prog.seen;
      charged = pointed g.row.B g.row.M g.row.E self.entries self.bytes _ _ (cell line.held) line.stuck c.requires.layout phase
          (λ n q. all.stuck n (sym (wrong-held self.prog line h.prog n) ∙ q)) h.charged;
      ready = phase.ready;
    })

pub returns-in-Switch-clause-line : goal.returns-in-Switch-clause-line
returns-in-Switch-clause-line g c line h status left =
    let (all, mask) = done c.args.self.now line c.args.turn.now c.in-Settled.wrong c.in-Settled.is h status left in c.switched.ensures.line line all

pub returns-in_default-clause-bytes : goal.returns-in_default-clause-bytes
returns-in_default-clause-bytes g c = grind arith

pub returns-in_default-clause-begun : goal.returns-in_default-clause-begun
returns-in_default-clause-begun g c = grind arith

pub returns-in_default-clause-steps : goal.returns-in_default-clause-steps
returns-in_default-clause-steps g c = grind arith

pub cleared-requires : goal.cleared-requires
cleared-requires g c = grind arith

pub filled-requires : goal.filled-requires
filled-requires g c = grind arith

pub switch-requires : goal.switch-requires
switch-requires g c = grind arith

pub switched-requires : goal.switched-requires
switched-requires g c = grind arith

pub returns-in-Clear-clause-bytes : goal.returns-in-Clear-clause-bytes
returns-in-Clear-clause-bytes g c = grind arith

pub returns-in-Clear-clause-steps : goal.returns-in-Clear-clause-steps
returns-in-Clear-clause-steps g c = grind arith

pub returns-in-Fill-clause-bytes : goal.returns-in-Fill-clause-bytes
returns-in-Fill-clause-bytes g c = grind arith

pub returns-in-Fill-clause-begun : goal.returns-in-Fill-clause-begun
returns-in-Fill-clause-begun g c = grind arith

pub returns-in-Fill-clause-steps : goal.returns-in-Fill-clause-steps
returns-in-Fill-clause-steps g c = grind arith

pub returns-in-Point-clause-bytes : goal.returns-in-Point-clause-bytes
returns-in-Point-clause-bytes g c = grind arith

pub returns-in-Point-clause-begun : goal.returns-in-Point-clause-begun
returns-in-Point-clause-begun g c = grind arith

pub returns-in-Point-clause-steps : goal.returns-in-Point-clause-steps
returns-in-Point-clause-steps g c = grind arith

pub returns-in-Switch-clause-bytes : goal.returns-in-Switch-clause-bytes
returns-in-Switch-clause-bytes g c = grind arith

pub returns-in-Switch-clause-begun : goal.returns-in-Switch-clause-begun
returns-in-Switch-clause-begun g c = grind arith

pub returns-in-Switch-clause-steps : goal.returns-in-Switch-clause-steps
returns-in-Switch-clause-steps g c = grind arith
