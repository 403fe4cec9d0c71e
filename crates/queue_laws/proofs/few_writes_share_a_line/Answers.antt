use Rattle.queue_laws.proofs.Rooms.{pairs_few_law}
use Rattle.queue_laws.proofs.few_writes_share_a_line.Goals as goal

pub returns : goal.returns
returns c = pairs_few_law
