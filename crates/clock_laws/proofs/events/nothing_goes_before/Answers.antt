use Rattle.clock_laws.proofs.Together.{before_law}
use Rattle.clock_laws.proofs.events.nothing_goes_before.Goals as goal

pub returns : goal.returns
returns c = before_law
