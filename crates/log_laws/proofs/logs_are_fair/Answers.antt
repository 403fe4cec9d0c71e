use Rattle.log_laws.proofs.Whole.{whole_log_law}
use Rattle.log_laws.proofs.logs_are_fair.Goals as goal

pub returns : goal.returns
returns c = whole_log_law
