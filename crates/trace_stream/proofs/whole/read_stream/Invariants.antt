use Rattle.std.proofs.Common.{◌≡◌, ◌-◌, ◌^◌, ℕ, List, true}
use Rattle.std.specs.{Io.KnownBytes.IsAtEnd, Prelude.vec_len}
use Rattle.pcm_io.specs.Taking.{Takes}
use Rattle.trace_stream.proofs.Runs.{HasAsked}
use Rattle.trace_stream.proofs.whole.read_stream.Given as goal

-- the rows so far were read
abbrev pub invariant-rows : goal.invariant-rows
invariant-rows g l = record {
  asked : (bytes : List ℕ) × Takes (g.S.Source.left l.fn.source) (g.S.Source.left l.source) (g.S.Source.taken l.fn.source) (g.S.Source.taken l.source) bytes
      × HasAsked g.row.B l.lines bytes l.all.items l.stream;
  lines : l.stream.lines ≡ l.lines;
  «end» : l.stream.arrived.ended ≡ true → IsAtEnd (g.S.Source.left l.source);
  no_fault : g.S.Source.faults l.source ≡ g.S.Source.faults l.fn.source;
}

abbrev pub decreases-rows : goal.decreases-rows
decreases-rows g l = 2 ^ 63 - vec_len l.all
