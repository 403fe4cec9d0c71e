use Rattle.bank_laws.proofs.Settling.{set_once_law}
use Rattle.bank_laws.proofs.first.outcomes_stay.Goals as goal

pub returns : goal.returns
returns c = set_once_law
