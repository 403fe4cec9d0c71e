use Rattle.check_telling.proofs.Right.{right_read_law}
use Rattle.check_telling.proofs.right_reads_are_told.Goals as goal

pub returns : goal.returns
returns c = right_read_law
