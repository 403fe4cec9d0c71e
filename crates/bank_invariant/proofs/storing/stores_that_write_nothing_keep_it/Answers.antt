use Rattle.bank_invariant.proofs.Finishing.{begun_stored_law}
use Rattle.bank_invariant.proofs.storing.stores_that_write_nothing_keep_it.Goals as goal

pub returns : goal.returns
returns c = begun_stored_law
