use Rattle.end_laws.proofs.Queued.{queue_law}
use Rattle.end_laws.proofs.queues_follow_rows.Goals as goal

pub returns : goal.returns
returns c = queue_law
