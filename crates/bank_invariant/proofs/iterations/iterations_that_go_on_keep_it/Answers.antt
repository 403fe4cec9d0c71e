use Rattle.bank_invariant.proofs.Iterating.{iterated_law}
use Rattle.bank_invariant.proofs.iterations.iterations_that_go_on_keep_it.Goals as goal

pub returns : goal.returns
returns c = iterated_law
