use Rattle.std.proofs.Common.{arith}
use Rattle.bank_core.proofs.bank.Bank.begin_next.Goals as goal

pub unreachable-requires : goal.unreachable-requires
unreachable-requires g c = grind arith

pub unreachable-unreachable : goal.unreachable-unreachable
unreachable-unreachable g c = grind arith

pub begin_store-requires : goal.begin_store-requires
begin_store-requires g c = grind arith

pub begin_copy-requires : goal.begin_copy-requires
begin_copy-requires g c = grind arith

pub returns-in-Store-clause-begins : goal.returns-in-Store-clause-begins
returns-in-Store-clause-begins g c = grind arith

pub returns-in-Store-clause-touches : goal.returns-in-Store-clause-touches
returns-in-Store-clause-touches g c = grind arith

pub returns-in-Copy-clause-begins : goal.returns-in-Copy-clause-begins
returns-in-Copy-clause-begins g c = grind arith

pub returns-in-Copy-clause-touches : goal.returns-in-Copy-clause-touches
returns-in-Copy-clause-touches g c = grind arith
