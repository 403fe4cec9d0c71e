use Rattle.std.proofs.Common.{◌≡◌, ◌<◌, ◌≤◌, ◌++◌, ℕ, List, [], length, true}
use Rattle.std.specs.Io.KnownBytes.{IsAtEnd}
use Rattle.pcm_io.specs.Taking.{Takes}
use Rattle.trace_stream.specs.{Arrived.StaysEnded, Kept.{GoesOn, decides}, Machine.state_of, Requests.{AsksWhere, LacksRow}}
use Rattle.trace_stream.proofs.records.Records.next.Given as goal

-- the record goes on with the bytes that were taken so far, one at least for each piece
abbrev pub invariant-pieces : goal.invariant-pieces
invariant-pieces g l = record {
  goes_on : (bytes : List ℕ) × Takes (g.S.Source.left l.initial.source) (g.S.Source.left l.source) (g.S.Source.taken l.initial.source) (g.S.Source.taken l.source) bytes
      × StaysEnded l.initial.self.incoming.ended bytes l.self.incoming.ended
      × GoesOn (state_of l.initial.self.place) [] [] (l.initial.self.incoming.bytes ++ bytes)
      (state_of l.self.place) l.self.kept.fields l.self.kept.field l.self.incoming.bytes
      × (l._piece ≤ length bytes)
      × (times : ℕ) × AsksWhere g.S.Source.left g.S.Source.taken (LacksRow (state_of l.initial.self.place) l.initial.self.incoming) l.initial.source times bytes l.source;
  few : length l.self.kept.fields < 5;
  prompt : decides (state_of l.initial.self.place) 0 l.initial.self.incoming.bytes ≡ true
      → (l.self.place ≡ l.initial.self.place) × (l.self.kept.fields ≡ []) × (l.self.incoming.bytes ≡ l.initial.self.incoming.bytes) × (l.source ≡ l.initial.source);
  «end» : (l.initial.self.incoming.ended ≡ true → IsAtEnd (g.S.Source.left l.initial.source)) → l.self.incoming.ended ≡ true → IsAtEnd (g.S.Source.left l.source);
  no_fault : g.S.Source.faults l.source ≡ g.S.Source.faults l.initial.source;
}
