use Rattle.check_judging.proofs.Covers.{cover_law}
use Rattle.check_judging.proofs.runs_cover.Goals as goal

pub returns : goal.returns
returns c = cover_law
