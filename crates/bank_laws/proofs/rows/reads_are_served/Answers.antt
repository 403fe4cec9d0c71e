use Rattle.bank_laws.proofs.Serves.{served_law}
use Rattle.bank_laws.proofs.rows.reads_are_served.Goals as goal

pub returns : goal.returns
returns c = served_law
