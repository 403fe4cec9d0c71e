use Rattle.std.proofs.Common.{arith}
use Rattle.cell_rows.proofs.RowLemmas.{cells_none, cells_some-bits, cells_some-meta}
use Rattle.cell_rows.proofs.row.Cells.is_none.Goals as goal

pub returns-then-is_zero-clause-none : goal.returns-then-is_zero-clause-none
returns-then-is_zero-clause-none g c is =
    cells_none c.args.self.now (omega arith) (c.is_zero.ensures.none c.if-is_zero.true) (c.is_zero-then-is_zero.ensures.none is)

pub returns-then-is_zero-clause-some : goal.returns-then-is_zero-clause-some
returns-then-is_zero-clause-some g c is =
    cells_some-meta c.args.self.now (omega arith) (omega arith) (c.is_zero-then-is_zero.ensures.some is)

pub returns-else-is_zero-clause-some : goal.returns-else-is_zero-clause-some
returns-else-is_zero-clause-some g c is = cells_some-bits c.args.self.now (omega arith) (c.is_zero.ensures.some is)
