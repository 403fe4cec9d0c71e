use Rattle.disk_lines.proofs.Placing.{places_law}
use Rattle.disk_lines.proofs.laws.places_are_one_to_one.Goals as goal

pub returns : goal.returns
returns c = places_law
