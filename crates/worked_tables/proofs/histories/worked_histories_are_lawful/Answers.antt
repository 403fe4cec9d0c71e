use Rattle.std.proofs.Common.{rules}
use lib.Count.{count_trailing_zeros}
use Rattle.ecp_line.specs.{Layout.{width, number, leading, active, source_below}, Reading.decode}
use Rattle.cell_rows.specs.Rows.{cell}
use Rattle.worked_tables.proofs.histories.worked_histories_are_lawful.Goals as goal

pub returns-clause-paused : goal.returns-clause-paused
unfolding decode width number leading active source_below cell count_trailing_zeros
returns-clause-paused c = search rules

pub returns-clause-not_paused : goal.returns-clause-not_paused
unfolding decode width number leading active source_below cell count_trailing_zeros
returns-clause-not_paused c = search rules

pub returns-clause-cancelled : goal.returns-clause-cancelled
unfolding decode width number leading active source_below cell count_trailing_zeros
returns-clause-cancelled c = search rules

pub returns-clause-two_entries : goal.returns-clause-two_entries
unfolding decode width number leading active source_below cell count_trailing_zeros
returns-clause-two_entries c = search rules

pub returns-clause-dropped_begin : goal.returns-clause-dropped_begin
unfolding decode width number leading active source_below cell count_trailing_zeros
returns-clause-dropped_begin c = search rules

pub returns-clause-copied : goal.returns-clause-copied
unfolding decode width number leading active source_below cell count_trailing_zeros
returns-clause-copied c = search rules
