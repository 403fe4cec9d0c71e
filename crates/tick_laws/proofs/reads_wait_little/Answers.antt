use Rattle.tick_laws.proofs.ReadTimes.{read_time_law}
use Rattle.tick_laws.proofs.reads_wait_little.Goals as goal

pub returns : goal.returns
returns c = read_time_law
