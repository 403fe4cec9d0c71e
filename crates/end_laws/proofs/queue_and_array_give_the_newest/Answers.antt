use Rattle.end_laws.proofs.Kept.{stands_law}
use Rattle.end_laws.proofs.queue_and_array_give_the_newest.Goals as goal

pub returns : goal.returns
returns c = stands_law
