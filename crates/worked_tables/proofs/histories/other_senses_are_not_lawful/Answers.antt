use Rattle.std.proofs.Common.{arith, ◌≡◌, ◌∷◌, []}
use lib.Count.{count_trailing_zeros}
use Rattle.ecp_line.specs.{Layout.{width, number, leading, active, source_below}, Reading.decode}
use Rattle.cell_rows.specs.Rows.{cell}
use Rattle.worked_tables.specs.HistoryExamples.{holds, whole}
use Rattle.worked_tables.proofs.histories.other_senses_are_not_lawful.Goals as goal

pub returns-clause-stores_other_bytes : goal.returns-clause-stores_other_bytes
unfolding decode width number leading active source_below cell count_trailing_zeros
returns-clause-stores_other_bytes c = λ l. cc (l.0.right)

pub returns-clause-serves_what_was_not_sensed : goal.returns-clause-serves_what_was_not_sensed
unfolding decode width number leading active source_below cell count_trailing_zeros
returns-clause-serves_what_was_not_sensed c = λ l. cc (l.0.right)

pub returns-clause-senses_another_line : goal.returns-clause-senses_another_line
unfolding decode width number leading active source_below cell count_trailing_zeros
returns-clause-senses_another_line c = λ l. cc (l.0.lines)

pub returns-clause-pulses_twice : goal.returns-clause-pulses_twice
unfolding decode width number leading active source_below cell count_trailing_zeros
returns-clause-pulses_twice c = λ l. omega (arith, (l.0.senses 0 (holds 15 3 (whole 0x11) 2) (omega arith)).1)

pub returns-clause-pulses_another_line : goal.returns-clause-pulses_another_line
unfolding decode width number leading active source_below cell count_trailing_zeros
returns-clause-pulses_another_line c = λ l. cc (l.0.pulsed)

pub returns-clause-copies_other_bytes : goal.returns-clause-copies_other_bytes
unfolding decode width number leading active source_below cell count_trailing_zeros
returns-clause-copies_other_bytes c = λ l. let e : (0x10 ∷ 0x11 ∷ []) ≡ whole 0x11 = l.0.right in cc
