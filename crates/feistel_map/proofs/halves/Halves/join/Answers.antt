use Rattle.feistel_map.proofs.Inverse.{joined-below}
use Rattle.feistel_map.proofs.halves.Halves.join.Goals as goal

pub returns-clause-fits : goal.returns-clause-fits
returns-clause-fits c = rw c.power.ensures (joined-below c.args.bits c.args.self c.requires.in_range)
