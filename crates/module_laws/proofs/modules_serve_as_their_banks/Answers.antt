use Rattle.module_laws.proofs.Serving.{served_by_banks_law}
use Rattle.module_laws.proofs.modules_serve_as_their_banks.Goals as goal

pub returns : goal.returns
returns c = served_by_banks_law
