use Rattle.tick_laws.proofs.Apart.{apart_law}
use Rattle.tick_laws.proofs.actions_stand_apart.Goals as goal

pub returns : goal.returns
returns c = apart_law
