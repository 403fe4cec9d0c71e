use Rattle.std.proofs.Common.{arith, ◌∙◌, refl}
use Rattle.cell_rows.proofs.RowLemmas.{block-bits, block-meta, kept-bits, kept-meta}
use Rattle.cell_rows.proofs.row.Cells.set_block.Goals as goal

pub returns-then-block-clause-here : goal.returns-then-block-clause-here
returns-then-block-clause-here g c i low =
    block-bits _ c.args.block i (omega arith) c.requires.whole.0 (omega arith) low ∙ c.write_block.ensures.here i low

pub returns-then-block-clause-others : goal.returns-then-block-clause-others
returns-then-block-clause-others g c n apart =
    kept-bits c.args.self.now _ c.args.block n (omega arith) (omega arith) refl c.write_block.ensures.others apart

pub returns-else-block-clause-here : goal.returns-else-block-clause-here
returns-else-block-clause-here g c i low =
    block-meta _ c.args.block i (omega arith) c.requires.whole.0 (omega arith) ∙ c.write_block-else-block.ensures.here i low

pub returns-else-block-clause-others : goal.returns-else-block-clause-others
returns-else-block-clause-others g c n apart =
    kept-meta c.args.self.now _ c.args.block n (omega arith) (omega arith) refl c.requires.whole.0 (omega arith) c.write_block-else-block.ensures.others apart
