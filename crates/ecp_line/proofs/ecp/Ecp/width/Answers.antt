use Rattle.std.proofs.Common.{arith, refl}
use Rattle.ecp_line.specs.Layout.{width}
use Rattle.ecp_line.proofs.ecp.Ecp.width.Goals as goal

pub returns : goal.returns
unfolding width
returns g c = refl

pub overflow_mul-result : goal.overflow_mul-result
overflow_mul-result g c = grind arith
