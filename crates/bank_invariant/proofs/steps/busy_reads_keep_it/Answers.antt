use Rattle.bank_invariant.proofs.Quiet.{busy_law}
use Rattle.bank_invariant.proofs.steps.busy_reads_keep_it.Goals as goal

pub returns : goal.returns
returns c = busy_law
