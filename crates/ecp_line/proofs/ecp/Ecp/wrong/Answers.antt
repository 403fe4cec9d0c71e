use Rattle.std.proofs.Common.{arith}
use Rattle.cell_rows.specs.Rows.{cell}
use Rattle.ecp_line.{specs.Layout.decoded, proofs.ReadRows.{lowest-wrong, IfSome-map}}
use Rattle.ecp_line.proofs.ecp.Ecp.wrong.Goals as goal

pub returns-clause-some : goal.returns-clause-some
returns-clause-some g c =
    IfSome-map c.lowest.result _ _
    (λ n h. lowest-wrong g.row.B g.row.M (cell c.corrected-read.result) (cell c.with_data-given.result) (cell c.differ.result) (decoded g.row.B g.row.E (cell c.args.cells.now)) c.args.bytes.now n
    c.with_data-given.ensures.«data» c.with_data-given.ensures.check c.differ.ensures.cells c.corrected-read.ensures.cells h)
    c.lowest.ensures.found

pub corrected-read-requires : goal.corrected-read-requires
corrected-read-requires g c = grind arith

pub with_data-given-requires : goal.with_data-given-requires
with_data-given-requires g c = grind arith

pub differ-requires : goal.differ-requires
differ-requires g c = grind arith

pub lowest-requires : goal.lowest-requires
lowest-requires g c = grind arith

pub returns-clause-none : goal.returns-clause-none
returns-clause-none g c = grind arith

pub returns-clause-right : goal.returns-clause-right
returns-clause-right g c = grind arith
