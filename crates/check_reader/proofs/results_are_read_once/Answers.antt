use Rattle.check_reader.proofs.Once.{read_once_law}
use Rattle.check_reader.proofs.results_are_read_once.Goals as goal

pub returns : goal.returns
returns c = read_once_law
