use Rattle.run_text.proofs.Adding.{counted-once}
use Rattle.run_text.proofs.laws.each_row_is_counted_once.Goals as goal

pub returns : goal.returns
returns c = counted-once
