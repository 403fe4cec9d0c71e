use Rattle.std.proofs.Common.{length}
use Rattle.check_verdict.proofs.lines.+held.Given as goal

abbrev pub decreases-held : goal.decreases-held
decreases-held g l = length l.runs.now
