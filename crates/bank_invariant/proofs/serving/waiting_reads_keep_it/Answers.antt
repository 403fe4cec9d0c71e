use Rattle.bank_invariant.proofs.Awaiting.{waiting_law}
use Rattle.bank_invariant.proofs.serving.waiting_reads_keep_it.Goals as goal

pub returns : goal.returns
returns c = waiting_law
