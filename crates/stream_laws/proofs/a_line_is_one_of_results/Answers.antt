use Rattle.stream_laws.proofs.Sorted.{one-line}
use Rattle.stream_laws.proofs.a_line_is_one_of_results.Goals as goal

pub returns : goal.returns
returns c = one-line
