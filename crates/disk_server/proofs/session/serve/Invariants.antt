use Rattle.std.proofs.Common.{◌≡◌, List, length}
use Rattle.disk_bytes.specs.Parts.{IsReady}
use Rattle.disk_server.{specs.Messages.{Message, phase_of}, specs.Sessions.seen, proofs.Messages.Has}
use Rattle.disk_server.proofs.session.serve.Given as goal

abbrev pub invariant-loop-message : goal.invariant-loop-message
invariant-loop-message g l = record {
  so_far : (messages : List Message)
      × Has g.row.B l.fn.disk.layout l.on_cut
      (seen g.S.Source.left g.S.Source.taken g.S.Source.faults g.K.Sink.written g.K.Sink.faults g.L.Lines.made g.L.Lines.stops l.fn.source l.fn.sink l.fn.lines)
      (seen g.S.Source.left g.S.Source.taken g.S.Source.faults g.K.Sink.written g.K.Sink.faults g.L.Lines.made g.L.Lines.stops l.source l.sink l.lines) messages
      × (l.phase ≡ phase_of messages) × (length messages ≡ l._message);
  ready : IsReady g.row.B (g.L.Lines.made l.lines) l.disk;
  layout : l.disk.layout ≡ l.fn.disk.layout;
  kind : g.L.Lines.kind l.lines ≡ g.L.Lines.kind l.fn.lines;
}
