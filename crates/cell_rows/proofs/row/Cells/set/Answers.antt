use Rattle.std.proofs.Common.{arith, refl}
use Rattle.cell_rows.proofs.RowLemmas.{cells_set-bits, cells_set-meta}
use Rattle.cell_rows.proofs.row.Cells.set.Goals as goal

pub returns-then-index : goal.returns-then-index
returns-then-index g c =
    cells_set-bits c.args.self.now _ c.args.number c.args.value (omega arith) (omega arith) (omega arith) c.set_bit.ensures refl

pub returns-else-index : goal.returns-else-index
returns-else-index g c =
    cells_set-meta c.args.self.now _ c.args.number c.args.value (omega arith) (omega arith) (omega arith) c.set_bit-else-index.ensures refl
