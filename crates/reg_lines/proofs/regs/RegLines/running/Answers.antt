use Rattle.std.proofs.Common.{arith}
use Rattle.reg_lines.proofs.regs.RegLines.running.Goals as goal

pub returns : goal.returns
returns g c = grind arith
