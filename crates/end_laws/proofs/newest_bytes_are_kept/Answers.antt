use Rattle.end_laws.proofs.Ending.{end_law}
use Rattle.end_laws.proofs.newest_bytes_are_kept.Goals as goal

pub returns : goal.returns
returns c = end_law
