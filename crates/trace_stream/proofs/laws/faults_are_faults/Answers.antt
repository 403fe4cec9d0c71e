use Rattle.trace_stream.proofs.Traces.{fault-streams}
use Rattle.trace_stream.proofs.laws.faults_are_faults.Goals as goal

pub returns : goal.returns
returns c = fault-streams
