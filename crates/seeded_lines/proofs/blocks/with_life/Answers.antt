use Rattle.seeded_lines.proofs.LifeLemmas.{life_here, life_kept}
use Rattle.seeded_lines.proofs.blocks.with_life.Goals as goal

pub returns-clause-here : goal.returns-clause-here
returns-clause-here c p none = life_here c.args.planes c.args.life c.args.index p c.requires.fits c.requires.small none

pub returns-clause-kept : goal.returns-clause-kept
returns-clause-kept c i other = life_kept c.args.planes c.args.life c.args.index i c.requires.fits c.requires.small c.requires.apart other
