use Rattle.pcm_top.proofs.Shapes.{map_in_range}
use Rattle.pcm_top.proofs.report.options_of.Goals as goal

pub returns-clause-in_range : goal.returns-clause-in_range
returns-clause-in_range c = rw c.raw-sizes.ensures.same (map_in_range c.args.job.now c.raw-sizes.ensures.in_range c.requires)
