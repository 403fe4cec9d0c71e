use Rattle.energy_laws.proofs.Changing.{driven_law}
use Rattle.energy_laws.proofs.driven_cells_change.Goals as goal

pub returns : goal.returns
returns c = driven_law
