use Rattle.bank_invariant.proofs.Finishing.{stored_law}
use Rattle.bank_invariant.proofs.storing.stores_keep_it.Goals as goal

pub returns : goal.returns
returns c = stored_law
