use Rattle.end_laws.proofs.Kept.{kept_law}
use Rattle.end_laws.proofs.lines_are_kept.Goals as goal

pub returns : goal.returns
returns c = kept_law
