use Rattle.std.proofs.Common.{arith}
use Rattle.reg_lines.proofs.regs.RegLines.keep.Goals as goal

pub status-requires : goal.status-requires
status-requires g c = grind arith

pub invariant_of-self : goal.invariant_of-self
invariant_of-self g c = grind arith

pub invariant_of-self-in-Stored : goal.invariant_of-self-in-Stored
invariant_of-self-in-Stored g c = grind arith

pub invariant_of-self-in-Worn : goal.invariant_of-self-in-Worn
invariant_of-self-in-Worn g c = grind arith

pub returns-in-More-clause-answer : goal.returns-in-More-clause-answer
returns-in-More-clause-answer g c = grind arith

pub returns-in-More-clause-regs : goal.returns-in-More-clause-regs
returns-in-More-clause-regs g c = grind arith

pub returns-in-Stored-clause-answer : goal.returns-in-Stored-clause-answer
returns-in-Stored-clause-answer g c = grind arith

pub returns-in-Stored-clause-regs : goal.returns-in-Stored-clause-regs
returns-in-Stored-clause-regs g c = grind arith

pub returns-in-Worn-clause-answer : goal.returns-in-Worn-clause-answer
returns-in-Worn-clause-answer g c = grind arith

pub returns-in-Worn-clause-regs : goal.returns-in-Worn-clause-regs
returns-in-Worn-clause-regs g c = grind arith
