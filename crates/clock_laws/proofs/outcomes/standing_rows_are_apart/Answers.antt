use Rattle.clock_laws.proofs.Others.{apart_law}
use Rattle.clock_laws.proofs.outcomes.standing_rows_are_apart.Goals as goal

pub returns : goal.returns
returns c = apart_law
