use Rattle.queue_laws.proofs.Together.{queue_fair_law}
use Rattle.queue_laws.proofs.rows_are_fair_to_the_queue.Goals as goal

pub returns : goal.returns
returns c = queue_fair_law
