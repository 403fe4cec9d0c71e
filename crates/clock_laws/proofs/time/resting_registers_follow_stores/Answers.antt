use Rattle.clock_laws.proofs.Draining.{resting_registers_law}
use Rattle.clock_laws.proofs.time.resting_registers_follow_stores.Goals as goal

pub returns : goal.returns
returns c = resting_registers_law
