use Rattle.std.proofs.Common.{arith}
use Rattle.bank_core.proofs.bank.Running.step.Goals as goal

pub step-requires : goal.step-requires
step-requires g c = grind arith

pub returns-clause-is : goal.returns-clause-is
returns-clause-is g c = grind arith

pub returns-clause-step : goal.returns-clause-step
returns-clause-step g c = grind arith
