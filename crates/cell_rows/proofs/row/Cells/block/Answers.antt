use Rattle.std.proofs.Common.{arith, ◌∙◌, sym}
use Rattle.cell_rows.proofs.RowLemmas.{block-bits, block-meta}
use Rattle.cell_rows.proofs.row.Cells.block.Goals as goal

pub returns-then-block : goal.returns-then-block
returns-then-block g c i low =
    c.read_block.ensures i low ∙ sym (block-bits c.args.self.now c.args.block i (omega arith) c.requires.whole.0 (omega arith) low)

pub returns-else-block : goal.returns-else-block
returns-else-block g c i low =
    c.read_block-else-block.ensures i low ∙ sym (block-meta c.args.self.now c.args.block i (omega arith) c.requires.whole.0 (omega arith))
