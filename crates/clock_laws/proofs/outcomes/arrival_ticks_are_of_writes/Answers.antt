use Rattle.clock_laws.proofs.Settled.{arrival_tick_law}
use Rattle.clock_laws.proofs.outcomes.arrival_ticks_are_of_writes.Goals as goal

pub returns : goal.returns
returns c = arrival_tick_law
