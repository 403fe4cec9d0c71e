use Rattle.trace_gen.proofs.Lawful.{long-mix}
use Rattle.trace_gen.proofs.laws.mixes_are_long.Goals as goal

pub returns : goal.returns
returns c = long-mix
