use Rattle.std.proofs.Common.{◌≡◌, List, length, take}
use Rattle.atomic_sectors.specs.Stops.{RoseBy}
use Rattle.disk_rules.specs.{Disk.told, declared.DiskAnswer.DiskAnswer, declared.DiskRequest.DiskRequest}
use Rattle.disk_bytes.specs.{Parts.IsReady, Serving.{IsServed, stops_in}}
use Rattle.disk_bytes.proofs.serving.serve_all.Given as goal

abbrev pub invariant-loop-request : goal.invariant-loop-request
invariant-loop-request g l = record {
  served : (asked : List (DiskRequest × DiskAnswer)) → IsServed g.row.B l.fn.disk.layout asked (g.L.Lines.made l.fn.lines)
      → IsServed g.row.B l.fn.disk.layout (told asked (take l.request-index l.requests) l.answers.items) (g.L.Lines.made l.lines);
  all : length l.answers.items ≡ l.request-index;
  ready : IsReady g.row.B (g.L.Lines.made l.lines) l.disk;
  layout : l.disk.layout ≡ l.fn.disk.layout;
  stops : RoseBy (stops_in l.answers.items) (g.L.Lines.stops l.fn.lines) (g.L.Lines.stops l.lines);
  kind : g.L.Lines.kind l.lines ≡ g.L.Lines.kind l.fn.lines;
}
