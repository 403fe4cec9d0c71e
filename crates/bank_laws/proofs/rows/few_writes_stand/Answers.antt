use Rattle.bank_laws.proofs.Pending.{queue_law}
use Rattle.bank_laws.proofs.rows.few_writes_stand.Goals as goal

pub returns : goal.returns
returns c = queue_law
