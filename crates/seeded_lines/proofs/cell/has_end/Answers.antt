use Rattle.std.proofs.Common.{arith}
use Rattle.cell_rows.proofs.RowLemmas.{cell_past}
use Rattle.seeded_lines.proofs.cell.has_end.Goals as goal

pub returns : goal.returns
returns g c n past = cell_past c.args.mask.now n (omega arith) (omega arith) past
