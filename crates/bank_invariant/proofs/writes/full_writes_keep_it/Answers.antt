use Rattle.bank_invariant.proofs.Taking.{full_law}
use Rattle.bank_invariant.proofs.writes.full_writes_keep_it.Goals as goal

pub returns : goal.returns
returns c = full_law
