use Rattle.std.proofs.Common.{◌≡◌, List, take}
use Rattle.atomic_sectors.specs.{Lines.stand, Sectors.Have, Serving.{Made, content, ServeAll, IsKnown}, Stops.{RoseBy, stops_in}}
use Rattle.atomic_sectors.proofs.serving.serve_all.Given as goal

abbrev pub invariant-loop-request : goal.invariant-loop-request
invariant-loop-request g l = record {
  known : IsKnown g.row.B l.layout (g.L.Lines.made l.lines) l.known;
  stops : RoseBy (stops_in l.answers.items) (g.L.Lines.stops l.fn.lines) (g.L.Lines.stops l.lines);
  kind : g.L.Lines.kind l.lines ≡ g.L.Lines.kind l.fn.lines;
  served : (before : List Made) → Have g.row.B l.layout (stand g.row.B (g.L.Lines.made l.fn.lines)) (content g.row.B before)
      → (behind : List Made) × ServeAll g.row.B l.layout.block (take l.request-index l.requests) l.answers.items before behind
      × Have g.row.B l.layout (stand g.row.B (g.L.Lines.made l.lines)) (content g.row.B behind);
}
