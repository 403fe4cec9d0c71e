use Rattle.bank_invariant.proofs.Taking.{exhausted_write_law}
use Rattle.bank_invariant.proofs.writes.exhausted_writes_keep_it.Goals as goal

pub returns : goal.returns
returns c = exhausted_write_law
