use Rattle.std.proofs.Common.{arith}
use Rattle.program_verify.proofs.prog.Prog.step.Goals as goal

pub wrong-requires : goal.wrong-requires
wrong-requires g c = grind arith

pub pulse-requires : goal.pulse-requires
pulse-requires g c = grind arith

pub sense-self-requires : goal.sense-self-requires
sense-self-requires g c = grind arith

pub overflow_add-self : goal.overflow_add-self
overflow_add-self g c = grind arith

pub status-requires : goal.status-requires
status-requires g c = grind arith

pub returns-clause-round : goal.returns-clause-round
returns-clause-round g c = grind arith

pub returns-clause-line : goal.returns-clause-line
returns-clause-line g c = grind arith

pub returns-clause-status : goal.returns-clause-status
returns-clause-status g c = grind arith

pub returns-clause-stuck : goal.returns-clause-stuck
returns-clause-stuck g c = grind arith
