use Rattle.end_laws.proofs.Following.{still_there_law}
use Rattle.end_laws.proofs.stored_rows_are_still_there.Goals as goal

pub returns : goal.returns
returns c = still_there_law
