use Rattle.std.proofs.Common.{arith}
use Rattle.bank_core.proofs.bank.Bank.worn.Goals as goal

pub retire-requires : goal.retire-requires
retire-requires g c = grind arith

pub invariant_of-self : goal.invariant_of-self
invariant_of-self g c = grind arith

pub returns-clause-answer : goal.returns-clause-answer
returns-clause-answer g c = grind arith

pub returns-clause-bank : goal.returns-clause-bank
returns-clause-bank g c = grind arith
