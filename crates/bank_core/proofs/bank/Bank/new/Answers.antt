use Rattle.std.proofs.Common.{arith}
use Rattle.bank_core.proofs.Fresh.{fresh_law}
use Rattle.bank_core.proofs.bank.Bank.new.Goals as goal

pub returns-clause-holds : goal.returns-clause-holds
returns-clause-holds g c =
    rw (c.in_ok-kept.ensures.first, c.in_ok-waiting.ensures, c.in_ok-lost.ensures)
    (λ array fresh. fresh_law c.args.shape array (omega (arith, c.requires.layout.shape.0)) c.requires.layout.shape.1 c.requires.limits fresh)

pub new-requires : goal.new-requires
new-requires g c = grind arith

pub returns-in_err-kept-clause-first : goal.returns-in_err-kept-clause-first
returns-in_err-kept-clause-first g c = grind arith

pub returns-in_err-kept-clause-holds : goal.returns-in_err-kept-clause-holds
returns-in_err-kept-clause-holds g c = grind arith

pub overflow_cast-shape : goal.overflow_cast-shape
overflow_cast-shape g c = grind arith

pub returns-in_err-waiting-clause-first : goal.returns-in_err-waiting-clause-first
returns-in_err-waiting-clause-first g c = grind arith

pub returns-in_err-waiting-clause-holds : goal.returns-in_err-waiting-clause-holds
returns-in_err-waiting-clause-holds g c = grind arith

pub overflow_cast-shape-2 : goal.overflow_cast-shape-2
overflow_cast-shape-2 g c = grind arith

pub returns-in_err-lost-clause-first : goal.returns-in_err-lost-clause-first
returns-in_err-lost-clause-first g c = grind arith

pub returns-in_err-lost-clause-holds : goal.returns-in_err-lost-clause-holds
returns-in_err-lost-clause-holds g c = grind arith

pub invariant_of-result : goal.invariant_of-result
invariant_of-result g c = grind arith

pub returns-clause-first : goal.returns-clause-first
returns-clause-first g c = grind arith
