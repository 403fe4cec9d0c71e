use Rattle.tick_laws.proofs.Times.{in_time_law}
use Rattle.tick_laws.proofs.rows_are_in_time.Goals as goal

pub returns : goal.returns
returns c = in_time_law
