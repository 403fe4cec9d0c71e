use Rattle.register_laws.proofs.Telling.{told_begun_law, told_iterated_law, told_left_law, told_broken_law, told_put_law, told_still_law, told_aside_law}
use Rattle.register_laws.proofs.changes_are_told.Goals as goal

pub returns-clause-begun : goal.returns-clause-begun
returns-clause-begun c = told_begun_law

pub returns-clause-iterated : goal.returns-clause-iterated
returns-clause-iterated c = told_iterated_law

pub returns-clause-left : goal.returns-clause-left
returns-clause-left c = told_left_law

pub returns-clause-broken : goal.returns-clause-broken
returns-clause-broken c = told_broken_law

pub returns-clause-put : goal.returns-clause-put
returns-clause-put c = told_put_law

pub returns-clause-still : goal.returns-clause-still
returns-clause-still c = told_still_law

pub returns-clause-aside : goal.returns-clause-aside
returns-clause-aside c = told_aside_law
