use Rattle.queue_laws.proofs.Forwards.{forward_law}
use Rattle.queue_laws.proofs.reads_are_forwarded_exactly.Goals as goal

pub returns : goal.returns
returns c = forward_law
