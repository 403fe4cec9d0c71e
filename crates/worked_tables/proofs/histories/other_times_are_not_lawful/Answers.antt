use Rattle.std.proofs.Common.{arith, ap}
use Rattle.bank_model.specs.Timing.{is_doing}
use Rattle.bank_shape.specs.declared.clock.Doing.TheVariants.{Serving, Beginning, Iterating}
use lib.Count.{count_trailing_zeros}
use Rattle.ecp_line.specs.{Layout.{width, number, leading, active, source_below}, Reading.decode}
use Rattle.cell_rows.specs.Rows.{cell}
use Rattle.worked_tables.proofs.histories.other_times_are_not_lawful.Goals as goal

pub returns-clause-iterates_too_long : goal.returns-clause-iterates_too_long
unfolding decode width number leading active source_below cell count_trailing_zeros
returns-clause-iterates_too_long c = λ l. omega (arith, l.0.on_time.0.1)

pub returns-clause-iterates_again : goal.returns-clause-iterates_again
unfolding decode width number leading active source_below cell count_trailing_zeros
returns-clause-iterates_again c = λ l. cc (ap (is_doing Iterating) l.0.on_time.0.0)

pub returns-clause-serves_between : goal.returns-clause-serves_between
unfolding decode width number leading active source_below cell count_trailing_zeros
returns-clause-serves_between c = λ l. cc (ap (is_doing Serving) l.0.on_time.0.0)

pub returns-clause-begins_though_dropped : goal.returns-clause-begins_though_dropped
unfolding decode width number leading active source_below cell count_trailing_zeros
returns-clause-begins_though_dropped c = λ l. cc (ap (is_doing Beginning) l.0.on_time.0.0)

pub returns-clause-arrives_before_the_last : goal.returns-clause-arrives_before_the_last
unfolding decode width number leading active source_below cell count_trailing_zeros
returns-clause-arrives_before_the_last c = λ l. omega (arith, l.0.on_time.0.1)
