use Rattle.end_laws.proofs.Used.{used_law}
use Rattle.end_laws.proofs.used_spares_were_given.Goals as goal

pub returns : goal.returns
returns c = used_law
