use Rattle.std.proofs.Common.{◌≡◌, ◌<◌, ◌≤◌, ◌-◌, drop, length, slice_index, vec_len}
use Rattle.csv.specs.Reading.{default_config, records}
use Rattle.trace_reader.specs.Trace.{after_events, rows_from}
use Rattle.trace_reader.proofs.trace.read_plain.Given as goal

-- the rows so far were read
abbrev pub invariant-rows : goal.invariant-rows
invariant-rows g l = record {
  is : rows_from g.row.B l.lines 1 0 (records default_config (drop l.from l.bytes))
      ≡ after_events l.events.items (rows_from g.row.B l.lines l.number l.before (records default_config (drop l.at l.bytes)));
  some : 1 ≤ l.at;
  within : l.at ≤ length l.bytes;
  behind : slice_index l.bytes (l.at - 1) ≡ 10;
  few : vec_len l.events < l.number;
}
