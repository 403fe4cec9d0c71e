use Rattle.stream_laws.proofs.Sorted.{result-lines}
use Rattle.stream_laws.proofs.results_are_lines.Goals as goal

pub returns : goal.returns
returns c = result-lines
