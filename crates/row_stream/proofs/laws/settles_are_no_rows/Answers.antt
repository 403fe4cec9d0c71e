use Rattle.row_stream.proofs.Decided.{settle-law}
use Rattle.row_stream.proofs.laws.settles_are_no_rows.Goals as goal

pub returns : goal.returns
returns c = settle-law
