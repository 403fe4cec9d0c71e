use Rattle.register_laws.proofs.Writing.{begun_law, iterated_law, broken_law}
use Rattle.register_laws.proofs.writing_keeps_control.Goals as goal

pub returns-clause-begun : goal.returns-clause-begun
returns-clause-begun c = begun_law

pub returns-clause-iterated : goal.returns-clause-iterated
returns-clause-iterated c = iterated_law

pub returns-clause-broken : goal.returns-clause-broken
returns-clause-broken c = broken_law
