use Rattle.row_stream.proofs.Decided.{one-end}
use Rattle.row_stream.proofs.laws.a_text_that_is_read_has_no_fault.Goals as goal

pub returns : goal.returns
returns g c = one-end g.S.Source.left g.S.Source.taken g.S.Source.faults
