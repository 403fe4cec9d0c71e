use Rattle.std.proofs.Common.{◌≡◌, ◌<◌, length}
use Rattle.trace_stream.specs.{Kept.GoesOn, Machine.state_of}
use Rattle.trace_stream.proofs.records.Records.advance.Given as goal

-- the record goes on with what is left
abbrev pub invariant-bytes : goal.invariant-bytes
invariant-bytes l = record {
  goes_on : GoesOn (state_of l.initial.self.place) l.initial.self.kept.fields l.initial.self.kept.field l.initial.self.incoming.bytes
      (state_of l.self.place) l.self.kept.fields l.self.kept.field l.self.incoming.bytes;
  few : length l.self.kept.fields < 5;
  same : l.self.incoming.ended ≡ l.initial.self.incoming.ended;
}

abbrev pub decreases-bytes : goal.decreases-bytes
decreases-bytes l = length l.self.incoming.bytes
