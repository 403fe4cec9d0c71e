use Rattle.stream_laws.proofs.Sorted.{sorted-lines}
use Rattle.stream_laws.proofs.streams_are_results.Goals as goal

pub returns : goal.returns
returns c = sorted-lines
