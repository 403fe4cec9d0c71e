use Rattle.clock_laws.proofs.Fitting.{needs_law}
use Rattle.clock_laws.proofs.time.actions_need_one_line_write.Goals as goal

pub returns : goal.returns
returns c = needs_law
