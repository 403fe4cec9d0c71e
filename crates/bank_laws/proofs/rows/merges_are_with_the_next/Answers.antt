use Rattle.bank_laws.proofs.Merging.{merge_law}
use Rattle.bank_laws.proofs.rows.merges_are_with_the_next.Goals as goal

pub returns : goal.returns
returns c = merge_law
