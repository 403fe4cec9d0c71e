use Rattle.std.proofs.Common.{arith}
use Rattle.program_verify.proofs.prog.Prog.tear.Goals as goal

pub wrong-requires : goal.wrong-requires
wrong-requires g c = grind arith

pub tear-requires : goal.tear-requires
tear-requires g c = grind arith

pub returns : goal.returns
returns g c = grind arith
