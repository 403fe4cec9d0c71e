use Rattle.energy_laws.proofs.Changing.{wrong_law}
use Rattle.energy_laws.proofs.only_wrong_cells_are_driven.Goals as goal

pub returns : goal.returns
returns c = wrong_law
