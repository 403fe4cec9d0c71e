use Rattle.seeded_lines.proofs.BlockLemmas.{digit_even}
use Rattle.seeded_lines.proofs.blocks.reached.Goals as goal

pub returns-then-tearing : goal.returns-then-tearing
returns-then-tearing c i low = rw c.if-tearing.true (digit_even c.args.bits i low)
