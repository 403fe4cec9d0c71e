use Rattle.module_laws.proofs.LastCuts.{last_cut_law}
use Rattle.module_laws.proofs.last_cuts_end_histories.Goals as goal

pub returns : goal.returns
returns c = last_cut_law
