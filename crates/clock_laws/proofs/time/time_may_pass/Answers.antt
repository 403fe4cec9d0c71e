use Rattle.clock_laws.proofs.Passing.{passing_law}
use Rattle.clock_laws.proofs.time.time_may_pass.Goals as goal

pub returns : goal.returns
returns c = passing_law
