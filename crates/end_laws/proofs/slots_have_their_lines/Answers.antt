use Rattle.end_laws.proofs.Remapped.{remapped_law}
use Rattle.end_laws.proofs.slots_have_their_lines.Goals as goal

pub returns : goal.returns
returns c = remapped_law
