use Rattle.feistel_map.proofs.Inverse.{halves_of-range}
use Rattle.feistel_map.proofs.halves.Halves.of.Goals as goal

pub returns-clause-in_range : goal.returns-clause-in_range
returns-clause-in_range c = rw c.power.ensures (halves_of-range c.args.bits c.args.number c.requires.fits)
