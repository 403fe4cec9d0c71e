use Rattle.worked_tables.proofs.SmallRun.{where_8_is, first_table, second_table}
use Rattle.worked_tables.proofs.runs.worked_lines_are_mixed.Goals as goal

pub returns : goal.returns
returns c = record {
  bank = where_8_is.0;
  own = where_8_is.1;
  named = where_8_is.2;
  first = first_table 0x11 0;
  second = second_table 0x11 0;
}
