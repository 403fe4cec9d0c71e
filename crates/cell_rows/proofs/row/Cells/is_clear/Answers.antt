use Rattle.std.proofs.Common.{arith, ◌∙◌, ◌-◌, ◌*◌}
use Rattle.cell_rows.proofs.{ByteLemmas.no_bit_in, RowLemmas.{cell-bits, cell-meta}}
use Rattle.cell_rows.proofs.row.Cells.is_clear.Goals as goal

pub returns-then-group : goal.returns-then-group
returns-then-group g c clear n low high =
    cell-bits c.args.self.now n (omega arith) (omega arith) ∙ no_bit_in c.args.self.now.bits c.args.group clear n low high

pub returns-else-group : goal.returns-else-group
returns-else-group g c clear n low high =
    cell-meta c.args.self.now n (omega arith) (omega arith)
    ∙ no_bit_in c.args.self.now.meta (c.args.group - g.row.B) clear (n - 8 * g.row.B) (omega arith) (omega arith)
