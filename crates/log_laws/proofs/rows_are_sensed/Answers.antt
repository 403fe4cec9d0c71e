use Rattle.log_laws.proofs.Sensed.{sensed_law}
use Rattle.log_laws.proofs.rows_are_sensed.Goals as goal

pub returns : goal.returns
returns c = sensed_law
