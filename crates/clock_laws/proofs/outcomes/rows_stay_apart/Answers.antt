use Rattle.clock_laws.proofs.Apart.{stay_apart_law}
use Rattle.clock_laws.proofs.outcomes.rows_stay_apart.Goals as goal

pub returns : goal.returns
returns c = stay_apart_law
