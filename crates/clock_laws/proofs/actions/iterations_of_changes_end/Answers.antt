use Rattle.clock_laws.proofs.Keeping.{keep_iterate_ends_law}
use Rattle.clock_laws.proofs.actions.iterations_of_changes_end.Goals as goal

pub returns : goal.returns
returns c = keep_iterate_ends_law
