use Rattle.std.proofs.Common.{arith}
use Rattle.ecp_line.proofs.mask.are_bytes.Goals as goal

pub returns : goal.returns
returns c = grind arith
