use Rattle.std.proofs.Common.{arith}
use Rattle.program_verify.proofs.prog.Prog.new.Goals as goal

pub returns-clause-made : goal.returns-clause-made
returns-clause-made g c = grind arith

pub returns-clause-programs : goal.returns-clause-programs
returns-clause-programs g c = grind arith
