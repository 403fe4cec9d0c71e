use Rattle.run_laws.proofs.Rows.{places_exist_law}
use Rattle.run_laws.proofs.places_are_array_lines.Goals as goal

pub returns : goal.returns
returns c = places_exist_law
