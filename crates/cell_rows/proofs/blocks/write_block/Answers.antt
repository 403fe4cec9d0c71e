use Rattle.cell_rows.proofs.WordLemmas.{word_written, word_kept}
use Rattle.cell_rows.proofs.blocks.write_block.Goals as goal

pub returns-clause-here : goal.returns-clause-here
returns-clause-here c i low = word_written c.args.bytes.now c.args.block c.args.bits i c.requires low

pub returns-clause-others : goal.returns-clause-others
returns-clause-others c n apart = word_kept c.args.bytes.now c.args.block c.args.bits n apart
