use Rattle.bank_invariant.proofs.Retiring.{exhausted_law}
use Rattle.bank_invariant.proofs.worn_lines.exhaustion_keeps_it.Goals as goal

pub returns : goal.returns
returns c = exhausted_law
