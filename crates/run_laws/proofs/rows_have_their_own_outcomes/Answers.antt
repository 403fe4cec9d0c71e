use Rattle.run_laws.proofs.Rows.{own_outcomes_law}
use Rattle.run_laws.proofs.rows_have_their_own_outcomes.Goals as goal

pub returns : goal.returns
returns c = own_outcomes_law
