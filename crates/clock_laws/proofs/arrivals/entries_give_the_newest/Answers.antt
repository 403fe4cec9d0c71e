use Rattle.clock_laws.proofs.Freshness.{entry_law}
use Rattle.clock_laws.proofs.arrivals.entries_give_the_newest.Goals as goal

pub returns : goal.returns
returns c = entry_law
