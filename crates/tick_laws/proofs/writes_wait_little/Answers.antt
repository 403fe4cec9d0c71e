use Rattle.tick_laws.proofs.Times.{store_time_law}
use Rattle.tick_laws.proofs.writes_wait_little.Goals as goal

pub returns : goal.returns
returns c = store_time_law
