use Rattle.std.proofs.Common.{refl}
use lib.Count.{count_trailing_zeros}
use Rattle.ecp_line.specs.{Layout.{width, number, leading, active, source_below}, Reading.decode}
use Rattle.cell_rows.specs.Rows.{cell}
use Rattle.worked_tables.proofs.histories.other_cuts_are_not_lawful.Goals as goal

pub returns-clause-cuts_without_a_tear : goal.returns-clause-cuts_without_a_tear
unfolding decode width number leading active source_below cell count_trailing_zeros
returns-clause-cuts_without_a_tear c = λ l. cc (l.0.on_time.1)

pub returns-clause-tears_a_begin : goal.returns-clause-tears_a_begin
unfolding decode width number leading active source_below cell count_trailing_zeros
returns-clause-tears_a_begin c = λ l. cc (l.0.on_time.1)

pub returns-clause-read_without_its_cancel : goal.returns-clause-read_without_its_cancel
unfolding decode width number leading active source_below cell count_trailing_zeros
returns-clause-read_without_its_cancel c = λ l. cc (l.1.1.1.0.on_time.2 (λ f. f))

pub returns-clause-cancels_without_its_read : goal.returns-clause-cancels_without_its_read
unfolding decode width number leading active source_below cell count_trailing_zeros
returns-clause-cancels_without_its_read c = λ l. l.0.behind refl
