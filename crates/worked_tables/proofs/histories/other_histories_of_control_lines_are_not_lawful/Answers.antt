use lib.Count.{count_trailing_zeros}
use Rattle.ecp_line.specs.{Layout.{width, number, leading, active, source_below}, Reading.decode}
use Rattle.cell_rows.specs.Rows.{cell}
use Rattle.worked_tables.proofs.histories.other_histories_of_control_lines_are_not_lawful.Goals as goal

pub returns-clause-begins : goal.returns-clause-begins
unfolding decode width number leading active source_below cell count_trailing_zeros
returns-clause-begins c = λ l. cc (l.0.on_time.2)

pub returns-clause-unread : goal.returns-clause-unread
unfolding decode width number leading active source_below cell count_trailing_zeros
returns-clause-unread c = λ l. cc (l.0.lines)

pub returns-clause-unpulsed : goal.returns-clause-unpulsed
unfolding decode width number leading active source_below cell count_trailing_zeros
returns-clause-unpulsed c = λ l. cc (l.0.pulsed)

pub returns-clause-on_halted : goal.returns-clause-on_halted
unfolding decode width number leading active source_below cell count_trailing_zeros
returns-clause-on_halted c = λ l. cc (l.0.may.1)

pub returns-clause-another : goal.returns-clause-another
unfolding decode width number leading active source_below cell count_trailing_zeros
returns-clause-another c = λ l. cc (l.0.pulsed)
