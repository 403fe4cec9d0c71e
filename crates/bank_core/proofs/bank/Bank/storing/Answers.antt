use Rattle.std.proofs.Common.{arith}
use Rattle.bank_core.proofs.bank.Bank.storing.Goals as goal

pub returns-in-None : goal.returns-in-None
returns-in-None g c = grind arith

pub returns-in-Store : goal.returns-in-Store
returns-in-Store g c = grind arith

pub returns-in_default : goal.returns-in_default
returns-in_default g c = grind arith
