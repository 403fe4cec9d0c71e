use Rattle.row_stream.proofs.Decided.{one-fault}
use Rattle.row_stream.proofs.laws.a_text_has_one_first_fault.Goals as goal

pub returns : goal.returns
returns g c = one-fault g.S.Source.left g.S.Source.taken g.S.Source.faults
