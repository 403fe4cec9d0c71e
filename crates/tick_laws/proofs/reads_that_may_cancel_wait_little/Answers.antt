use Rattle.tick_laws.proofs.FewCancels.{few_cancels_law}
use Rattle.tick_laws.proofs.reads_that_may_cancel_wait_little.Goals as goal

pub returns : goal.returns
returns c = few_cancels_law
