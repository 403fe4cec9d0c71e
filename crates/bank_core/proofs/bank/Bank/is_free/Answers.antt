use Rattle.std.proofs.Common.{arith}
use Rattle.bank_core.proofs.bank.Bank.is_free.Goals as goal

pub awaits-requires : goal.awaits-requires
awaits-requires g c = grind arith

pub returns-in-Nothing : goal.returns-in-Nothing
returns-in-Nothing g c = grind arith

pub returns-in-Store : goal.returns-in-Store
returns-in-Store g c = grind arith

pub returns-in-Copy : goal.returns-in-Copy
returns-in-Copy g c = grind arith
