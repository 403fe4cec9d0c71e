use Rattle.std.proofs.Common.{◌&&◌, arith}
use Rattle.cell_rows.proofs.RowLemmas.{cells_by_bits}
use Rattle.cell_rows.proofs.row.Cells.meet.Goals as goal

pub returns : goal.returns
returns g c =
    cells_by_bits (λ a b. a && b) c.args.self.now c.args.other.now _ (omega arith) (omega arith) (omega arith) c.and_with.ensures c.and_with-2.ensures
