use Rattle.run_text.proofs.Adding.{short-counted}
use Rattle.run_text.proofs.laws.short_rows_are_counted.Goals as goal

pub returns : goal.returns
returns c = short-counted
