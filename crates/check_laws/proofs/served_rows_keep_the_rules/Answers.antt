use Rattle.check_laws.proofs.Judged.{served_rules_law}
use Rattle.check_laws.proofs.served_rows_keep_the_rules.Goals as goal

pub returns : goal.returns
returns c = served_rules_law c.lines_have_their_banks.ensures
