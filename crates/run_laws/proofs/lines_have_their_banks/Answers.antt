use Rattle.run_laws.proofs.Mixing.{lines_law}
use Rattle.run_laws.proofs.lines_have_their_banks.Goals as goal

pub returns : goal.returns
returns c = lines_law
