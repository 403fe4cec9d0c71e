use Rattle.std.proofs.Common.{◌≡◌, ◌≤◌, ◌-◌, length}
use Rattle.trace_reader.proofs.Table.{ReadsDigits}
use Rattle.trace_reader.proofs.payload.read_digits.Given as goal

-- the pairs so far were read
abbrev pub invariant-by_lanes : goal.invariant-by_lanes
invariant-by_lanes l = record {
  within : l.done ≤ length l.bytes;
  same : length l.bytes ≡ length l.initial.bytes;
  reads : ReadsDigits l.text l.done l.bytes;
}

abbrev pub decreases-by_lanes : goal.decreases-by_lanes
decreases-by_lanes l = length l.bytes - l.done

abbrev pub invariant-by_pairs : goal.invariant-by_pairs
invariant-by_pairs l = record {
  same : length l.bytes ≡ length l.initial.bytes;
  reads : ReadsDigits l.text l.i l.bytes;
}
