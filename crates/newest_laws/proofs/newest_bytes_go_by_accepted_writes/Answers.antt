use Rattle.newest_laws.proofs.Newest.{writes_law}
use Rattle.newest_laws.proofs.newest_bytes_go_by_accepted_writes.Goals as goal

pub returns : goal.returns
returns c = writes_law
