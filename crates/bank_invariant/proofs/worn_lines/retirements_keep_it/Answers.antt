use Rattle.bank_invariant.proofs.Retiring.{retired_law}
use Rattle.bank_invariant.proofs.worn_lines.retirements_keep_it.Goals as goal

pub returns : goal.returns
returns c = retired_law
