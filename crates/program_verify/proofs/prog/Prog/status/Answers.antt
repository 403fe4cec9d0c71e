use Rattle.std.proofs.Common.{arith}
use Rattle.program_verify.proofs.prog.Prog.status.Goals as goal

pub wrong-wrong-requires : goal.wrong-wrong-requires
wrong-wrong-requires g c = grind arith

pub is_none-requires : goal.is_none-requires
is_none-requires g c = grind arith

pub returns-then-not-is_none-clause-status : goal.returns-then-not-is_none-clause-status
returns-then-not-is_none-clause-status g c = grind arith

pub returns-then-not-is_none-clause-stuck : goal.returns-then-not-is_none-clause-stuck
returns-then-not-is_none-clause-stuck g c = grind arith

pub returns-else-self-lt-ROUNDS-clause-status : goal.returns-else-self-lt-ROUNDS-clause-status
returns-else-self-lt-ROUNDS-clause-status g c = grind arith

pub returns-else-self-lt-ROUNDS-clause-stuck : goal.returns-else-self-lt-ROUNDS-clause-stuck
returns-else-self-lt-ROUNDS-clause-stuck g c = grind arith
