use Rattle.seeded_lines.proofs.BlockLemmas.{byte_of}
use Rattle.seeded_lines.proofs.blocks.byte_at.Goals as goal

pub returns : goal.returns
returns c i low = byte_of c.args.planes c.args.index i low
