use Rattle.std.proofs.Common.{◌≡◌, ◌-◌, ◌≤◌, List, ◌∷◌, length}
use Rattle.atomic_sectors.specs.{Lines.stand, Moments.AtEachMoment}
use Rattle.disk_rules.specs.{Disk.{Written, IsPart}, Standing.{HoldsDisk, sector_size}}
use Rattle.disk_bytes.specs.Parts.{IsReady, HasPart, part}
use Rattle.disk_bytes.proofs.disk.Disk.write.Given as goal

abbrev pub invariant-loop-done : goal.invariant-loop-done
invariant-loop-done g l = record {
  within : l.done ≤ length l.bytes;
  is_part : IsPart (sector_size g.row.B l.fn.self.layout) (part l.at l.bytes l.done);
  holds : (before : List Written) → HoldsDisk g.row.B l.fn.self.layout (stand g.row.B (g.L.Lines.made l.fn.lines)) before
      → HoldsDisk g.row.B l.fn.self.layout (stand g.row.B (g.L.Lines.made l.lines)) (part l.at l.bytes l.done ∷ before);
  moments : (before : List Written) → HoldsDisk g.row.B l.fn.self.layout (stand g.row.B (g.L.Lines.made l.fn.lines)) before
      → AtEachMoment (HasPart g.row.B l.fn.self.layout l.at l.bytes before) (g.L.Lines.made l.fn.lines) (g.L.Lines.made l.lines);
  ready : IsReady g.row.B (g.L.Lines.made l.lines) l.self;
  layout : l.self.layout ≡ l.fn.self.layout;
  stops : g.L.Lines.stops l.fn.lines ≤ g.L.Lines.stops l.lines;
  kind : g.L.Lines.kind l.lines ≡ g.L.Lines.kind l.fn.lines;
}

abbrev pub decreases-loop-done : goal.decreases-loop-done
decreases-loop-done g l = length l.bytes - l.done
