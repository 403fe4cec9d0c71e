use Rattle.std.proofs.Common.{arith}
use Rattle.pcm_module.proofs.side_by_side.Module.shape.Goals as goal

pub returns-clause-shape : goal.returns-clause-shape
returns-clause-shape g c = grind arith

pub returns-clause-in_range : goal.returns-clause-in_range
returns-clause-in_range g c = grind arith
