use Rattle.bank_invariant.proofs.Awaiting.{may_serve_law}
use Rattle.bank_invariant.proofs.serving.serves_may_answer_so.Goals as goal

pub returns : goal.returns
returns c = may_serve_law
