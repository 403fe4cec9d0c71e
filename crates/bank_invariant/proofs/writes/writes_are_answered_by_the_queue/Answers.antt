use Rattle.bank_invariant.proofs.Answering.{write_answer_law}
use Rattle.bank_invariant.proofs.writes.writes_are_answered_by_the_queue.Goals as goal

pub returns : goal.returns
returns c = write_answer_law
