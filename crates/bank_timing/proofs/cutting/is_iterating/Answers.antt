use Rattle.std.proofs.Common.{arith}
use Rattle.bank_timing.proofs.cutting.is_iterating.Goals as goal

pub returns-in-Some-Iterating : goal.returns-in-Some-Iterating
returns-in-Some-Iterating c = grind arith

pub returns-in_default : goal.returns-in_default
returns-in_default c = grind arith

pub returns-in_default-2 : goal.returns-in_default-2
returns-in_default-2 c = grind arith
