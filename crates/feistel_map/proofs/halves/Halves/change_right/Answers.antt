use Rattle.feistel_map.proofs.Inverse.{right_round-range}
use Rattle.feistel_map.proofs.halves.Halves.change_right.Goals as goal

pub returns-clause-in_range : goal.returns-clause-in_range
returns-clause-in_range c = right_round-range c.args.bits c.overlay.result c.args.self c.requires.in_range c.overlay.ensures.below
