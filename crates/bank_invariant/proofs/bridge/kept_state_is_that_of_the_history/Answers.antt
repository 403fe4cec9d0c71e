use Rattle.bank_invariant.proofs.Agreeing.{agree_law}
use Rattle.bank_invariant.proofs.bridge.kept_state_is_that_of_the_history.Goals as goal

pub returns : goal.returns
returns c = agree_law
