use Rattle.check_laws.proofs.Judged.{yes_law}
use Rattle.check_laws.proofs.right_runs_get_yes.Goals as goal

pub returns : goal.returns
returns c = yes_law c.served_rows_get_yes.ensures
