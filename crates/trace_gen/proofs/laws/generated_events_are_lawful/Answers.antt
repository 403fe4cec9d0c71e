use Rattle.trace_gen.proofs.Lawful.{generated_law}
use Rattle.trace_gen.proofs.laws.generated_events_are_lawful.Goals as goal

pub returns : goal.returns
returns c = generated_law
