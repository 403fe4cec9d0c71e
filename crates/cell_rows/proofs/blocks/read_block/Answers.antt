use Rattle.cell_rows.proofs.BlockLemmas.{word_read}
use Rattle.cell_rows.proofs.blocks.read_block.Goals as goal

pub returns : goal.returns
returns c i low = word_read c.args.bytes.now c.args.block i c.requires c.type_inv.bytes low
