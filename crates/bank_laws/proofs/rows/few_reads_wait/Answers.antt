use Rattle.bank_laws.proofs.Waiting.{wait_law}
use Rattle.bank_laws.proofs.rows.few_reads_wait.Goals as goal

pub returns : goal.returns
returns c = wait_law
