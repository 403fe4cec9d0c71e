use Rattle.check_telling.proofs.RightWrites.{right_write_law, right_cut_law}
use Rattle.check_telling.proofs.right_writes_are_told.Goals as goal

pub returns-clause-write : goal.returns-clause-write
returns-clause-write c = right_write_law

pub returns-clause-cut : goal.returns-clause-cut
returns-clause-cut c = right_cut_law
