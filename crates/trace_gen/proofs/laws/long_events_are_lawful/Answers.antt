use Rattle.trace_gen.proofs.Lawful.{long_generated_law}
use Rattle.trace_gen.proofs.laws.long_events_are_lawful.Goals as goal

pub returns : goal.returns
returns c = long_generated_law
