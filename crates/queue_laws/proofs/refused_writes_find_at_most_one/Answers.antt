use Rattle.queue_laws.proofs.Rooms.{refusal_law}
use Rattle.queue_laws.proofs.refused_writes_find_at_most_one.Goals as goal

pub returns : goal.returns
returns c = refusal_law
