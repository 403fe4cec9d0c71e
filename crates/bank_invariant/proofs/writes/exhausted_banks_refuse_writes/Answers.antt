use Rattle.bank_invariant.proofs.Answering.{refusal_law}
use Rattle.bank_invariant.proofs.writes.exhausted_banks_refuse_writes.Goals as goal

pub returns : goal.returns
returns c = refusal_law
