use Rattle.clock_laws.proofs.Cutting.{keep_cancel_law}
use Rattle.clock_laws.proofs.arrivals.reads_cancel_the_writing_of_changes.Goals as goal

pub returns : goal.returns
returns c = keep_cancel_law
