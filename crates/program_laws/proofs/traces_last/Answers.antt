use Rattle.std.proofs.Common.{arith}
use Rattle.program_laws.proofs.traces_last.Goals as goal

pub returns : goal.returns
returns c n m e job s array run hot bank is layout exists few =
    c.lasting_traces_live_on.ensures n m e job.shape job.seed _ array run.ends hot bank is.shape layout run.right exists few

pub lasting_traces_live_on-requires : goal.lasting_traces_live_on-requires
lasting_traces_live_on-requires c = grind arith
