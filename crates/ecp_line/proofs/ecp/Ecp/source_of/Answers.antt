use Rattle.std.proofs.Common.{arith}
use Rattle.ecp_line.proofs.ecp.Ecp.source_of.Goals as goal

pub active-requires : goal.active-requires
active-requires g c = grind arith

pub source_below-requires : goal.source_below-requires
source_below-requires g c = grind arith

pub returns : goal.returns
returns g c = grind arith
