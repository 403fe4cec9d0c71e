use Rattle.clock_laws.proofs.Keeping.{keep_begin_ends_law}
use Rattle.clock_laws.proofs.actions.begins_of_changes_end.Goals as goal

pub returns : goal.returns
returns c = keep_begin_ends_law
