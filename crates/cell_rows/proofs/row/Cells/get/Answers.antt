use Rattle.std.proofs.Common.{◌∙◌, sym, arith}
use Rattle.cell_rows.proofs.RowLemmas.{cell-bits, cell-meta}
use Rattle.cell_rows.proofs.row.Cells.get.Goals as goal

pub returns-then-index : goal.returns-then-index
returns-then-index g c = c.bit.ensures ∙ sym (cell-bits c.args.self.now c.args.number (omega arith) (omega arith))

pub returns-else-index : goal.returns-else-index
returns-else-index g c = c.bit-else-index.ensures ∙ sym (cell-meta c.args.self.now c.args.number (omega arith) (omega arith))
