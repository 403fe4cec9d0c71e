use Rattle.std.proofs.Common.{arith}
use Rattle.bank_core.proofs.Answering.{lost_law}
use Rattle.bank_core.proofs.bank.Bank.take_lost.Goals as goal

pub returns-clause-holds : goal.returns-clause-holds
returns-clause-holds g c = rw (← c.self.view_is, c.pop_front.ensures.items) (λ h array holds. lost_law h _ array holds)

pub invariant_of-self : goal.invariant_of-self
invariant_of-self g c = grind arith

pub returns-clause-row : goal.returns-clause-row
returns-clause-row g c = grind arith

pub returns-clause-bank : goal.returns-clause-bank
returns-clause-bank g c = grind arith

pub returns-clause-tied : goal.returns-clause-tied
returns-clause-tied g c = grind arith
