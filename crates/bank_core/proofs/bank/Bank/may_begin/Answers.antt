use Rattle.std.proofs.Common.{arith}
use Rattle.bank_core.proofs.bank.Bank.may_begin.Goals as goal

pub next_work-requires : goal.next_work-requires
next_work-requires g c = grind arith

pub is_free-requires : goal.is_free-requires
is_free-requires g c = grind arith

pub returns-then-not-is_some : goal.returns-then-not-is_some
returns-then-not-is_some g c = grind arith

pub returns-else-not-is_some : goal.returns-else-not-is_some
returns-else-not-is_some g c = grind arith
