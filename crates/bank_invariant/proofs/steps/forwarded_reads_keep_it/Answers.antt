use Rattle.bank_invariant.proofs.Quiet.{forwarded_law}
use Rattle.bank_invariant.proofs.steps.forwarded_reads_keep_it.Goals as goal

pub returns : goal.returns
returns c = forwarded_law
