use Rattle.trace_stream.proofs.Bare.{faults-back}
use Rattle.trace_stream.proofs.laws.faults_come_back.Goals as goal

pub returns : goal.returns
returns c = faults-back
