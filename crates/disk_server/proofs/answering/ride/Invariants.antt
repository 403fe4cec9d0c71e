use Rattle.std.proofs.Common.{◌≡◌}
use Rattle.disk_bytes.specs.Parts.{IsReady}
use Rattle.disk_server.proofs.Asking.{Asked}
use Rattle.disk_server.proofs.answering.ride.Given as goal

abbrev pub invariant-loop-cut : goal.invariant-loop-cut
invariant-loop-cut g l = record {
  asked : Asked g.row.B l.fn.disk.layout l.request (g.L.Lines.made l.fn.lines) (g.L.Lines.made l.lines) (g.L.Lines.stops l.fn.lines) (g.L.Lines.stops l.lines) l._cut l.answer;
  ready : IsReady g.row.B (g.L.Lines.made l.lines) l.disk;
  layout : l.disk.layout ≡ l.fn.disk.layout;
  kind : g.L.Lines.kind l.lines ≡ g.L.Lines.kind l.fn.lines;
}
