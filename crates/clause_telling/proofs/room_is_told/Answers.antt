use Rattle.clause_telling.proofs.Rooms.{room_law}
use Rattle.clause_telling.proofs.room_is_told.Goals as goal

pub returns : goal.returns
returns c = room_law
