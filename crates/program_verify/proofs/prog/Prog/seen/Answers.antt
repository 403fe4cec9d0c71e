use Rattle.std.proofs.Common.{arith}
use Rattle.program_verify.proofs.prog.Prog.seen.Goals as goal

pub returns : goal.returns
returns g c = grind arith
