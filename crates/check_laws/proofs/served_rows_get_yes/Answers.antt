use Rattle.check_laws.proofs.Judged.{served_yes_law}
use Rattle.check_laws.proofs.served_rows_get_yes.Goals as goal

pub returns : goal.returns
returns c = served_yes_law c.verdicts_are_exact.ensures c.served_rows_keep_the_rules.ensures
