use Rattle.check_text.proofs.Behind.{split_law}
use Rattle.check_text.proofs.results_begin_behind_their_trace.Goals as goal

pub returns : goal.returns
returns c = split_law
