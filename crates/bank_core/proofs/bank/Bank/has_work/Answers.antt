use Rattle.std.proofs.Common.{arith}
use Rattle.bank_core.proofs.bank.Bank.has_work.Goals as goal

pub next_work-requires : goal.next_work-requires
next_work-requires g c = grind arith

pub returns-then-len-gt0 : goal.returns-then-len-gt0
returns-then-len-gt0 g c = grind arith

pub returns-in-Nothing : goal.returns-in-Nothing
returns-in-Nothing g c = grind arith

pub returns-in_default : goal.returns-in_default
returns-in_default g c = grind arith
