use Rattle.trace_stream.proofs.Fronts.{fault-front}
use Rattle.trace_stream.proofs.laws.a_fault_stands_behind_its_front.Goals as goal

pub returns : goal.returns
returns c = fault-front
