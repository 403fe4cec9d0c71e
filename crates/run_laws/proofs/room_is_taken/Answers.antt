use Rattle.run_laws.proofs.Rows.{room_is_taken_law}
use Rattle.run_laws.proofs.room_is_taken.Goals as goal

pub returns : goal.returns
returns c = room_is_taken_law
