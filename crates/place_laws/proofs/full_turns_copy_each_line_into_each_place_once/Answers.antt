use Rattle.place_laws.proofs.GapMoves.{full_turn_law}
use Rattle.place_laws.proofs.full_turns_copy_each_line_into_each_place_once.Goals as goal

pub returns : goal.returns
returns c = full_turn_law
