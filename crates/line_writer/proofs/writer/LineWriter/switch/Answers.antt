use Rattle.std.proofs.Common.{true, cond, eqb, sym, ap, ◌∙◌, subst, arith}
use Rattle.cell_rows.specs.{Rows.cell, declared.row.Cells.Cells}
use Rattle.program_verify.specs.{Programming.IsGoing, declared.prog.Prog.Prog}
use Rattle.line_writer.{specs.Phases.IsSwitching, proofs.Making.switching-made}
use Rattle.line_writer.proofs.writer.LineWriter.switch.Goals as goal

pub returns-clause-line : goal.returns-clause-line
returns-clause-line g c line h =
    let w = c.args.self.now.entries in
    let both = subst (λ (p : Prog g.row.B g.row.M). IsSwitching g.row.B g.row.M g.row.E w (cell p.want) (cell p.which) (cell line.held) line.stuck × IsGoing p) (sym c.new-self.ensures.made)
    (switching-made g.row.E w c.switch-cell.result line.held c.seen-2.result.now c.set.new.self c.set-2.new.self line.stuck (cell c.zero-which.result) c.requires.layout
    (h.seen ∙ sym c.seen-2.ensures) c.switch-cell.ensures
    (λ n. c.set.ensures n ∙ ap (λ (k : Cells g.row.B g.row.M). cond (eqb n c.switch-cell.result) true (cell k n)) (c.seen.ensures ∙ sym c.seen-2.ensures))
    c.set-2.ensures c.zero-which.ensures.cells h.ready h.charged) in (
      record {
        prog = c.new-self.ensures.programs line (h.seen ∙ sym c.seen-2.ensures);
        most = omega arith;
        charged = λ j le. h.charged j (omega arith);
        phase = both.0;
      },
      both.1,
    )

pub switch-cell-requires-clause-layout : goal.switch-cell-requires-clause-layout
switch-cell-requires-clause-layout g c = grind arith

pub switch-cell-requires-clause-exists : goal.switch-cell-requires-clause-exists
switch-cell-requires-clause-exists g c = grind arith

pub seen-requires : goal.seen-requires
seen-requires g c = grind arith

pub set-requires : goal.set-requires
set-requires g c = grind arith

pub zero-which-requires : goal.zero-which-requires
zero-which-requires g c = grind arith

pub set-requires-2 : goal.set-requires-2
set-requires-2 g c = grind arith

pub seen-requires-2 : goal.seen-requires-2
seen-requires-2 g c = grind arith

pub new-self-requires : goal.new-self-requires
new-self-requires g c = grind arith

pub returns-clause-bytes : goal.returns-clause-bytes
returns-clause-bytes g c = grind arith

pub returns-clause-steps : goal.returns-clause-steps
returns-clause-steps g c = grind arith
