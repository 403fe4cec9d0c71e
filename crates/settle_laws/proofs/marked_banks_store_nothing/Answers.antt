use Rattle.settle_laws.proofs.Turning.{ended_mark_law, mark_law}
use Rattle.settle_laws.proofs.marked_banks_store_nothing.Goals as goal

pub returns-clause-ended : goal.returns-clause-ended
returns-clause-ended c = ended_mark_law

pub returns-clause-so_far : goal.returns-clause-so_far
returns-clause-so_far c = mark_law
