use Rattle.clock_laws.proofs.Together.{behind_law}
use Rattle.clock_laws.proofs.events.senses_come_behind.Goals as goal

pub returns : goal.returns
returns c = behind_law
