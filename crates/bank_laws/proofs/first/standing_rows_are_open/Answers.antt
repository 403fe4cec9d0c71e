use Rattle.bank_laws.proofs.Settling.{open_law}
use Rattle.bank_laws.proofs.first.standing_rows_are_open.Goals as goal

pub returns : goal.returns
returns c = open_law
