use Rattle.check_telling.proofs.Clauses.{clause_law}
use Rattle.check_telling.proofs.clauses_tell.Goals as goal

pub returns : goal.returns
returns c = clause_law
