use Rattle.std.proofs.Common.{arith}
use lib.Count.{count_trailing_zeros}
use Rattle.ecp_line.specs.{Layout.{width, number, leading, active, source_below}, Reading.decode}
use Rattle.cell_rows.specs.Rows.{cell}
use Rattle.worked_tables.proofs.histories.other_answers_are_not_lawful.Goals as goal

pub returns-clause-merges_into_the_busy_head : goal.returns-clause-merges_into_the_busy_head
unfolding decode width number leading active source_below cell count_trailing_zeros
returns-clause-merges_into_the_busy_head c = λ l. cc (l.0.may.2)

pub returns-clause-refuses_with_room : goal.returns-clause-refuses_with_room
unfolding decode width number leading active source_below cell count_trailing_zeros
returns-clause-refuses_with_room c = λ l. cc (l.0.may.2)

pub returns-clause-waits_though_queued : goal.returns-clause-waits_though_queued
unfolding decode width number leading active source_below cell count_trailing_zeros
returns-clause-waits_though_queued c = λ l. cc (l.0.may.1)

pub returns-clause-forwards_other_bytes : goal.returns-clause-forwards_other_bytes
unfolding decode width number leading active source_below cell count_trailing_zeros
returns-clause-forwards_other_bytes c = λ l. cc (l.0.may.1)

pub returns-clause-repeats_a_row : goal.returns-clause-repeats_a_row
unfolding decode width number leading active source_below cell count_trailing_zeros
returns-clause-repeats_a_row c = λ l. omega (arith, l.0.asked.0)

pub returns-clause-stores_another_row : goal.returns-clause-stores_another_row
unfolding decode width number leading active source_below cell count_trailing_zeros
returns-clause-stores_another_row c = λ l. omega (arith, l.0.may.1.0)

pub returns-clause-exhausts_with_spares : goal.returns-clause-exhausts_with_spares
unfolding decode width number leading active source_below cell count_trailing_zeros
returns-clause-exhausts_with_spares c = λ l. omega (arith, l.0.may.1)
