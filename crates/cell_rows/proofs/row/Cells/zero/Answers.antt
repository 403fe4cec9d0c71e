use Rattle.cell_rows.proofs.RowLemmas.{cell-zeros}
use Rattle.cell_rows.proofs.row.Cells.zero.Goals as goal

pub returns-clause-cells : goal.returns-clause-cells
returns-clause-cells g c = cell-zeros g.row.B g.row.M
