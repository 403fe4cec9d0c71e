use Rattle.worked_tables.proofs.SmallVerdicts.{right, stale, early, latest, late, other_place}
use Rattle.worked_tables.proofs.verdicts.worked_runs_get_their_verdicts.Goals as goal

pub returns : goal.returns
returns c = record { right = right; stale = stale; early = early; latest = latest; late = late; misplaced = other_place }
