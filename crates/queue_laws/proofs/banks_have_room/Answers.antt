use Rattle.queue_laws.proofs.Rooms.{room_law}
use Rattle.queue_laws.proofs.banks_have_room.Goals as goal

pub returns : goal.returns
returns c = room_law
