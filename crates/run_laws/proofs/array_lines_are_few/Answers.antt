use Rattle.run_laws.proofs.Rows.{few_array_lines_law}
use Rattle.run_laws.proofs.array_lines_are_few.Goals as goal

pub returns : goal.returns
returns c = few_array_lines_law
