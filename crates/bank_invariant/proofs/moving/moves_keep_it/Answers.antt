use Rattle.bank_invariant.proofs.Turned.{moved_law}
use Rattle.bank_invariant.proofs.moving.moves_keep_it.Goals as goal

pub returns : goal.returns
returns c = moved_law
