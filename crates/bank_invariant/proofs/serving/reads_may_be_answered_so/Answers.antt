use Rattle.bank_invariant.proofs.Awaiting.{may_read_law}
use Rattle.bank_invariant.proofs.serving.reads_may_be_answered_so.Goals as goal

pub returns : goal.returns
returns c = may_read_law
