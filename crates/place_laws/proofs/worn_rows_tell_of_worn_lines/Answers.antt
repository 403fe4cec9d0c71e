use Rattle.place_laws.proofs.Taken.{worn_law}
use Rattle.place_laws.proofs.worn_rows_tell_of_worn_lines.Goals as goal

pub returns : goal.returns
returns c = worn_law
