use Rattle.place_laws.proofs.Placed.{placed_law}
use Rattle.place_laws.proofs.rows_are_placed.Goals as goal

pub returns : goal.returns
returns c = placed_law
