use Rattle.queue_laws.proofs.Last.{last_write_law}
use Rattle.queue_laws.proofs.newest_entries_are_of_last_writes.Goals as goal

pub returns : goal.returns
returns c = last_write_law
