use Rattle.cell_rows.proofs.ByteLemmas.{digit_without}
use Rattle.seeded_lines.proofs.blocks.without.Goals as goal

pub returns : goal.returns
returns c i = digit_without c.args.bits c.args.other i
