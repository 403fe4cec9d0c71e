use Rattle.trace_stream.proofs.Traces.{trace-streams}
use Rattle.trace_stream.proofs.laws.traces_are_streams.Goals as goal

pub returns : goal.returns
returns c = trace-streams
