use Rattle.bank_laws.proofs.Holding.{bound_law}
use Rattle.bank_laws.proofs.first.banks_hold_few.Goals as goal

pub returns : goal.returns
returns c = bound_law
