use Rattle.place_laws.proofs.GapMoves.{gap_moves_law}
use Rattle.place_laws.proofs.gap_moves_are_those_of_the_rotation.Goals as goal

pub returns : goal.returns
returns c = gap_moves_law
