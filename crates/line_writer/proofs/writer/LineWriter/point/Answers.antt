use Rattle.std.proofs.Common.{arith, sym, ◌∙◌, subst}
use Rattle.cell_rows.specs.Rows.{cell}
use Rattle.program_verify.specs.declared.prog.Prog.{Prog}
use Rattle.line_writer.{specs.Phases.IsPointing, proofs.Going.wrong-held, proofs.Making.pointing-made, proofs.Settling.pointed}
use Rattle.line_writer.proofs.writer.LineWriter.point.Goals as goal

pub returns-in-Settled-clause-line : goal.returns-in-Settled-clause-line
returns-in-Settled-clause-line g c line h =
    let w = c.args.self.now.entries in
    let programs = c.new-self.ensures.programs line (h.seen ∙ sym c.seen-2.ensures) in
    let phase = subst (λ (p : Prog g.row.B g.row.M). IsPointing g.row.B g.row.E w c.args.self.now.bytes (cell p.want) (cell p.which) (cell line.held) line.stuck) (sym c.new-self.ensures.made)
    (pointing-made g.row.B g.row.E w c.args.bit c.args.self.now.bytes (cell c.pointer-want.result.0) (cell c.pointer-want.result.1) (cell line.held) line.stuck
    h.ready c.pointer-want.ensures.points c.pointer-want.ensures.mask h.wrong h.lower h.stuck) in
    c.switch.ensures.line line (record {
      seen = programs.seen;
      charged = pointed g.row.B g.row.M g.row.E w c.args.self.now.bytes _ _ (cell line.held) line.stuck c.requires.layout phase
          (λ n q. c.in-Settled.ensures.stuck line programs n (c.in-Settled.ensures.status.0 n ∙ sym (wrong-held c.new-self.result line programs n) ∙ q)) h.charged;
      ready = h.ready;
    })

pub seen-requires : goal.seen-requires
seen-requires g c = grind arith

pub pointer-want-requires : goal.pointer-want-requires
pointer-want-requires g c = grind arith

pub seen-requires-2 : goal.seen-requires-2
seen-requires-2 g c = grind arith

pub new-self-requires : goal.new-self-requires
new-self-requires g c = grind arith

pub status-requires : goal.status-requires
status-requires g c = grind arith

pub switch-requires : goal.switch-requires
switch-requires g c = grind arith

pub returns-in-Going-clause-line : goal.returns-in-Going-clause-line
returns-in-Going-clause-line g c = grind arith

pub returns-in-Going-clause-bytes : goal.returns-in-Going-clause-bytes
returns-in-Going-clause-bytes g c = grind arith

pub returns-in-Going-clause-steps : goal.returns-in-Going-clause-steps
returns-in-Going-clause-steps g c = grind arith

pub returns-in-Settled-clause-bytes : goal.returns-in-Settled-clause-bytes
returns-in-Settled-clause-bytes g c = grind arith

pub returns-in-Settled-clause-steps : goal.returns-in-Settled-clause-steps
returns-in-Settled-clause-steps g c = grind arith
