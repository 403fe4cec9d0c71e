use Rattle.bank_invariant.proofs.Awaiting.{served_law}
use Rattle.bank_invariant.proofs.serving.serves_keep_it.Goals as goal

pub returns : goal.returns
returns c = served_law
