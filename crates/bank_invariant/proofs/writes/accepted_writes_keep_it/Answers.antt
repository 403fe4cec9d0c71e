use Rattle.bank_invariant.proofs.Arriving.{accepted_write_law}
use Rattle.bank_invariant.proofs.writes.accepted_writes_keep_it.Goals as goal

pub returns : goal.returns
returns c = accepted_write_law
