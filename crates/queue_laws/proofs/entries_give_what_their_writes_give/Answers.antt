use Rattle.queue_laws.proofs.Owned.{entry_bytes_law}
use Rattle.queue_laws.proofs.entries_give_what_their_writes_give.Goals as goal

pub returns : goal.returns
returns c = entry_bytes_law
