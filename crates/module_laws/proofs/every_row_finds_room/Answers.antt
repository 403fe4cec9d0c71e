use Rattle.module_laws.proofs.Splitting.{room_law}
use Rattle.module_laws.proofs.every_row_finds_room.Goals as goal

pub returns : goal.returns
returns c = room_law
