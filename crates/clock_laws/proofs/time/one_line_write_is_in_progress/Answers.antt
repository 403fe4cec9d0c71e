use Rattle.clock_laws.proofs.Remaining.{one_write_law}
use Rattle.clock_laws.proofs.time.one_line_write_is_in_progress.Goals as goal

pub returns : goal.returns
returns c = one_write_law
