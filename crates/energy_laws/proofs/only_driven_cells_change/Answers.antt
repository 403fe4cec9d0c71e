use Rattle.energy_laws.proofs.Changing.{changed_law}
use Rattle.energy_laws.proofs.only_driven_cells_change.Goals as goal

pub returns : goal.returns
returns c = changed_law
