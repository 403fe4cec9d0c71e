use Rattle.clock_laws.proofs.Tearing.{keep_cancel_ends_law}
use Rattle.clock_laws.proofs.actions.cancels_end_the_writing_of_changes.Goals as goal

pub returns : goal.returns
returns c = keep_cancel_ends_law
