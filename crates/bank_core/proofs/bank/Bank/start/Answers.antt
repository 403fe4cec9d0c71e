use Rattle.std.proofs.Common.{arith}
use Rattle.bank_core.proofs.bank.Bank.start.Goals as goal

pub status-requires : goal.status-requires
status-requires g c = grind arith

pub invariant_of-self : goal.invariant_of-self
invariant_of-self g c = grind arith

pub done-requires : goal.done-requires
done-requires g c = grind arith

pub unreachable-requires : goal.unreachable-requires
unreachable-requires g c = grind arith

pub unreachable-unreachable : goal.unreachable-unreachable
unreachable-unreachable g c = grind arith

pub returns-in-More-clause-answer : goal.returns-in-More-clause-answer
returns-in-More-clause-answer g c = grind arith

pub returns-in-More-clause-bank : goal.returns-in-More-clause-bank
returns-in-More-clause-bank g c = grind arith

pub returns-in-Stored-clause-answer : goal.returns-in-Stored-clause-answer
returns-in-Stored-clause-answer g c = grind arith

pub returns-in-Stored-clause-bank : goal.returns-in-Stored-clause-bank
returns-in-Stored-clause-bank g c = grind arith
