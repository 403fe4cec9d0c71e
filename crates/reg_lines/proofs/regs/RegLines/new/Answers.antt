use Rattle.std.proofs.Common.{arith}
use Rattle.reg_lines.proofs.regs.RegLines.new.Goals as goal

pub invariant_of-result : goal.invariant_of-result
invariant_of-result g c = grind arith

pub returns : goal.returns
returns g c = grind arith
