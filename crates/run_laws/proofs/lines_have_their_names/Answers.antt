use Rattle.run_laws.proofs.Mixing.{named_law}
use Rattle.run_laws.proofs.lines_have_their_names.Goals as goal

pub returns : goal.returns
returns c = named_law
