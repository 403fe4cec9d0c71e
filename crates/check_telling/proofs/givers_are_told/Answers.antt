use Rattle.check_telling.proofs.Givers.{giver_law}
use Rattle.check_telling.proofs.givers_are_told.Goals as goal

pub returns : goal.returns
returns c = giver_law
