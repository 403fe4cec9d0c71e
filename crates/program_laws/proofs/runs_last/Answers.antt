use Rattle.std.proofs.Common.{arith}
use Rattle.program_laws.proofs.runs_last.Goals as goal

pub returns : goal.returns
returns c n m e job s array run hot bank is layout exists few =
    c.runs_live_on.ensures n m e job.shape job.seed _ array run.ends hot bank is.shape layout run.right exists few

pub runs_live_on-requires : goal.runs_live_on-requires
runs_live_on-requires c = grind arith
