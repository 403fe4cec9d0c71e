use Rattle.trace_stream.proofs.Bare.{bare-streams}
use Rattle.trace_stream.proofs.laws.settling_changes_no_event.Goals as goal

pub returns : goal.returns
returns c = bare-streams
