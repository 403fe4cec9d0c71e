use Rattle.std.proofs.Common.{arith}
use Rattle.reg_lines.proofs.regs.RegLines.put.Goals as goal

pub invariant_of-self : goal.invariant_of-self
invariant_of-self g c = grind arith

pub returns : goal.returns
returns g c = grind arith
