use Rattle.std.proofs.Common.{arith}
use Rattle.bank_core.proofs.bank.Bank.kept.Goals as goal

pub returns-clause-kept : goal.returns-clause-kept
returns-clause-kept g c = grind arith

pub returns-clause-in_range : goal.returns-clause-in_range
returns-clause-in_range g c = grind arith
