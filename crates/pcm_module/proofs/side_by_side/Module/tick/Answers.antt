use Rattle.std.proofs.Common.{arith}
use Rattle.pcm_module.proofs.side_by_side.Module.tick.Goals as goal

pub returns : goal.returns
returns g c = grind arith
