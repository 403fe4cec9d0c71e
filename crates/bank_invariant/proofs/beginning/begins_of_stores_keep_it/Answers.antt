use Rattle.bank_invariant.proofs.Starting.{begun_store_law}
use Rattle.bank_invariant.proofs.beginning.begins_of_stores_keep_it.Goals as goal

pub returns : goal.returns
returns c = begun_store_law
