use Rattle.std.proofs.Common.{sym, ap, arith, ◌∙◌}
use Rattle.cell_rows.specs.Rows.{cell}
use Rattle.ecp_line.specs.Layout.{active}
use Rattle.wear_totals.proofs.Sums.{byte-small, pointers-none, pointers-on}
use Rattle.wear_totals.proofs.walk.pointers.Goals as goal

pub loop-line-init : goal.loop-line-init
loop-line-init g c = (sym (pointers-none g.row.E (g.A.CellArray.state c.args.array.now)), omega arith)

pub loop-line-preserved : goal.loop-line-preserved
loop-line-preserved g c =
    pointers-on g.row.E (g.A.CellArray.state c.args.array.now) c.loop-line.line c.loop-line.sum c.active.result c.loop-line.invariant
    (c.active.ensures.count ∙ ap (λ held. active g.row.B g.row.E (cell held)) c.held-held.ensures) (byte-small c.active.result (omega arith))
