use Rattle.check_text.proofs.Printed.{printed_law}
use Rattle.check_text.proofs.printed_results_are_read.Goals as goal

pub returns : goal.returns
returns c = printed_law
