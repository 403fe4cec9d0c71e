use Rattle.std.proofs.Common.{arith, ◌∙◌, sym}
use Rattle.seeded_lines.proofs.CountLemmas.{block_count-bits, block_count-meta}
use Rattle.seeded_lines.proofs.counts.Counts.block.Goals as goal

pub returns-then-block : goal.returns-then-block
returns-then-block g c i low =
    c.read_counts.ensures i low ∙ sym (block_count-bits c.args.self.now c.args.block i (omega arith) c.requires.whole.0 (omega arith) low)

pub returns-else-block : goal.returns-else-block
returns-else-block g c i low =
    c.read_counts-else-block.ensures i low ∙ sym (block_count-meta c.args.self.now c.args.block i (omega arith) c.requires.whole.0 (omega arith))
