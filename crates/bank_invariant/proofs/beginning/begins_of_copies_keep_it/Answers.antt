use Rattle.bank_invariant.proofs.Starting.{begun_copy_law}
use Rattle.bank_invariant.proofs.beginning.begins_of_copies_keep_it.Goals as goal

pub returns : goal.returns
returns c = begun_copy_law
