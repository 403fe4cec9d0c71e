use Rattle.bank_laws.proofs.Standing.{row_law}
use Rattle.bank_laws.proofs.first.rows_stand_apart.Goals as goal

pub returns : goal.returns
returns c = row_law
