use Rattle.clock_laws.proofs.Settled.{lost_rows_law}
use Rattle.clock_laws.proofs.outcomes.cuts_lose_waiting_reads.Goals as goal

pub returns : goal.returns
returns c = lost_rows_law
