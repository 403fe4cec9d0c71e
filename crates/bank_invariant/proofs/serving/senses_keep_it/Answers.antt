use Rattle.bank_invariant.proofs.Awaiting.{sensed_law}
use Rattle.bank_invariant.proofs.serving.senses_keep_it.Goals as goal

pub returns : goal.returns
returns c = sensed_law
