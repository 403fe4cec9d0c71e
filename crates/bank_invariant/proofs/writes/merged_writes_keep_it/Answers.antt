use Rattle.bank_invariant.proofs.Arriving.{merged_write_law}
use Rattle.bank_invariant.proofs.writes.merged_writes_keep_it.Goals as goal

pub returns : goal.returns
returns c = merged_write_law
