use Rattle.end_laws.proofs.Kept.{stored_bytes_law}
use Rattle.end_laws.proofs.stored_bytes_are_in_the_array.Goals as goal

pub returns : goal.returns
returns c = stored_bytes_law
