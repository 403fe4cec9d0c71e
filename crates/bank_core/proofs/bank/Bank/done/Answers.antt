use Rattle.std.proofs.Common.{arith}
use Rattle.bank_core.proofs.bank.Bank.done.Goals as goal

pub unreachable-requires : goal.unreachable-requires
unreachable-requires g c = grind arith

pub unreachable-unreachable : goal.unreachable-unreachable
unreachable-unreachable g c = grind arith

pub stored-requires : goal.stored-requires
stored-requires g c = grind arith

pub invariant_of-self : goal.invariant_of-self
invariant_of-self g c = grind arith

pub moved-requires : goal.moved-requires
moved-requires g c = grind arith

pub invariant_of-self-in-Copy : goal.invariant_of-self-in-Copy
invariant_of-self-in-Copy g c = grind arith

pub returns-in-Store-clause-answer : goal.returns-in-Store-clause-answer
returns-in-Store-clause-answer g c = grind arith

pub returns-in-Store-clause-bank : goal.returns-in-Store-clause-bank
returns-in-Store-clause-bank g c = grind arith

pub returns-in-Copy-clause-answer : goal.returns-in-Copy-clause-answer
returns-in-Copy-clause-answer g c = grind arith

pub returns-in-Copy-clause-bank : goal.returns-in-Copy-clause-bank
returns-in-Copy-clause-bank g c = grind arith
