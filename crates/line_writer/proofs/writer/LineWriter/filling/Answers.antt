use Rattle.std.proofs.Common.{arith, sym, ap, subst}
use Rattle.cell_rows.specs.Rows.{cell}
use Rattle.program_verify.specs.declared.prog.Prog.{Prog}
use Rattle.ecp_line.specs.Layout.{active, IsWanted}
use Rattle.line_writer.proofs.writer.LineWriter.filling.Goals as goal

pub first-progress-requires : goal.first-progress-requires
first-progress-requires g c =
    let seen = ap (λ (p : Prog g.row.B g.row.M). p.seen) c.new-prog.ensures.made in
    let fresh = ap (λ (p : Prog g.row.B g.row.M). p.rounds) c.new-prog.ensures.made in
    let wanted = subst (λ (p : Prog g.row.B g.row.M). IsWanted g.row.B (active g.row.B g.row.E (cell c.args.seen)) (cell c.args.seen) c.args.bytes (cell p.want) (cell p.which))
    (sym c.new-prog.ensures.made) c.wanted.ensures in
    grind arith
