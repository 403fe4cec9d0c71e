use Rattle.clock_laws.proofs.Tearing.{cut_ends_law}
use Rattle.clock_laws.proofs.actions.cuts_end_actions.Goals as goal

pub returns : goal.returns
returns c = cut_ends_law
