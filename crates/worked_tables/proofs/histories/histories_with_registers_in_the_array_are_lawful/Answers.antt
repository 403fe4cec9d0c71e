use Rattle.std.proofs.Common.{rules}
use lib.Count.{count_trailing_zeros}
use Rattle.ecp_line.specs.{Layout.{width, number, leading, active, source_below}, Reading.decode}
use Rattle.cell_rows.specs.Rows.{cell}
use Rattle.worked_tables.proofs.histories.histories_with_registers_in_the_array_are_lawful.Goals as goal

pub returns-clause-done : goal.returns-clause-done
unfolding decode width number leading active source_below cell count_trailing_zeros
returns-clause-done c = search rules

pub returns-clause-torn : goal.returns-clause-torn
unfolding decode width number leading active source_below cell count_trailing_zeros
returns-clause-torn c = search rules

pub returns-clause-halted : goal.returns-clause-halted
unfolding decode width number leading active source_below cell count_trailing_zeros
returns-clause-halted c = search rules

pub returns-clause-bank_torn : goal.returns-clause-bank_torn
unfolding decode width number leading active source_below cell count_trailing_zeros
returns-clause-bank_torn c = search rules

pub returns-clause-cancelled : goal.returns-clause-cancelled
unfolding decode width number leading active source_below cell count_trailing_zeros
returns-clause-cancelled c = search rules
