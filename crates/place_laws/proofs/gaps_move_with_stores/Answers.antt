use Rattle.place_laws.proofs.Moved.{moved_law}
use Rattle.place_laws.proofs.gaps_move_with_stores.Goals as goal

pub returns : goal.returns
returns c = moved_law
