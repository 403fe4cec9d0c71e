use Rattle.bank_invariant.proofs.Quiet.{cut_law}
use Rattle.bank_invariant.proofs.steps.cuts_between_pulses_keep_it.Goals as goal

pub returns : goal.returns
returns c = cut_law
