use Rattle.clock_laws.proofs.Passing.{idle_law}
use Rattle.clock_laws.proofs.time.idle_banks_have_no_work.Goals as goal

pub returns : goal.returns
returns c = idle_law
