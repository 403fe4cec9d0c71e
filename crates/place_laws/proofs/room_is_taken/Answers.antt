use Rattle.place_laws.proofs.Taken.{taken_law}
use Rattle.place_laws.proofs.room_is_taken.Goals as goal

pub returns : goal.returns
returns c = taken_law
