use Rattle.std.proofs.Common.{arith}
use Rattle.program_verify.proofs.prog.Prog.wrong.Goals as goal

pub differ-requires : goal.differ-requires
differ-requires g c = grind arith

pub meet-requires : goal.meet-requires
meet-requires g c = grind arith

pub returns : goal.returns
returns g c = grind arith
