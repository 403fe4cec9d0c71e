use Rattle.lifetime_laws.proofs.Asking.{asked_law}
use Rattle.lifetime_laws.proofs.asked_writes_bound_stores.Goals as goal

pub returns : goal.returns
returns c = asked_law
