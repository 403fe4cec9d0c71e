use Rattle.module_prints.proofs.MapsAlike.{map_law}
use Rattle.module_prints.proofs.laws.maps_are_told_alike.Goals as goal

pub returns : goal.returns
returns c = map_law
