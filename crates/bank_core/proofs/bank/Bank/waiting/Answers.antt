use Rattle.std.proofs.Common.{arith}
use Rattle.bank_core.proofs.bank.Bank.waiting.Goals as goal

pub overflow_cast-result : goal.overflow_cast-result
overflow_cast-result g c = grind arith

pub returns-clause-count : goal.returns-clause-count
returns-clause-count g c = grind arith

pub returns-clause-within : goal.returns-clause-within
returns-clause-within g c = grind arith
