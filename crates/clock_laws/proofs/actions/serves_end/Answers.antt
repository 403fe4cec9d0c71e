use Rattle.clock_laws.proofs.Ending.{serve_ends_law}
use Rattle.clock_laws.proofs.actions.serves_end.Goals as goal

pub returns : goal.returns
returns c = serve_ends_law
