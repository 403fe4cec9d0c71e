use Rattle.clock_laws.proofs.Tearing.{cancel_ends_law}
use Rattle.clock_laws.proofs.actions.cancels_end_actions.Goals as goal

pub returns : goal.returns
returns c = cancel_ends_law
