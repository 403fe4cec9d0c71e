use Rattle.std.proofs.Common.{arith}
use Rattle.bank_timing.proofs.arriving.is_store_of.Goals as goal

pub returns-in-Store : goal.returns-in-Store
returns-in-Store c = grind arith

pub returns-in_default : goal.returns-in_default
returns-in_default c = grind arith
