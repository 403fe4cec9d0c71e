use Rattle.std.proofs.Common.{arith}
use Rattle.cell_rows.{specs.Rows.xor, proofs.RowLemmas.{cells_by_bits, bits_from_cells, meta_from_cells, same_rows}}
use Rattle.cell_rows.proofs.row.Cells.differ.Goals as goal

pub returns-clause-cells : goal.returns-clause-cells
returns-clause-cells g c =
    cells_by_bits xor c.args.self.now c.args.other.now _ (omega arith) (omega arith) (omega arith) c.xor_with.ensures.bits c.xor_with-2.ensures.bits

pub returns-clause-same : goal.returns-clause-same
returns-clause-same g c none =
    let bits = c.xor_with.ensures.same (bits_from_cells _ (omega arith) none) in
    let meta = c.xor_with-2.ensures.same (meta_from_cells _ (omega arith) none) in
    same_rows _ _ bits meta
