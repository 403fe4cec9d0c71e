use Rattle.bank_invariant.proofs.Turned.{moved_at_once_law}
use Rattle.bank_invariant.proofs.moving.moves_at_once_keep_it.Goals as goal

pub returns : goal.returns
returns c = moved_at_once_law
