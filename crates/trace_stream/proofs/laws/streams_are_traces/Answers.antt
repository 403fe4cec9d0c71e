use Rattle.trace_stream.proofs.Traces.{stream-traces}
use Rattle.trace_stream.proofs.laws.streams_are_traces.Goals as goal

pub returns : goal.returns
returns c = stream-traces
