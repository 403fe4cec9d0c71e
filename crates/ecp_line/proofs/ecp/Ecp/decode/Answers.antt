use Rattle.std.proofs.Common.{arith}
use Rattle.ecp_line.proofs.ecp.Ecp.decode.Goals as goal

pub corrected-requires : goal.corrected-requires
corrected-requires g c = grind arith

pub returns-clause-bits : goal.returns-clause-bits
returns-clause-bits g c = grind arith

pub returns-clause-bytes : goal.returns-clause-bytes
returns-clause-bytes g c = grind arith
