use Rattle.check_laws.proofs.Judged.{rules_kept_law}
use Rattle.check_laws.proofs.right_runs_keep_the_rules.Goals as goal

pub returns : goal.returns
returns c = rules_kept_law c.served_rows_keep_the_rules.ensures
