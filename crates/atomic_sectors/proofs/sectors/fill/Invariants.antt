use Rattle.std.proofs.Common.{◌≡◌, ℕ, ◌+◌, ◌<◌, ◌≤◌, length, get_or, []}
use Rattle.atomic_sectors.specs.{Lines.stand, Moments.AtEachMoment, Sectors.KeepsOthers}
use Rattle.atomic_sectors.proofs.sectors.fill.Given as goal

abbrev pub invariant-loop-i : goal.invariant-loop-i
invariant-loop-i g l = record {
  stands : (j : ℕ) → j < l.i → stand g.row.B (g.L.Lines.made l.lines) (l.first + j) ≡ get_or l.from j [];
  moments : AtEachMoment (KeepsOthers g.row.B l.first (length l.from) (g.L.Lines.made l.fn.lines)) (g.L.Lines.made l.fn.lines) (g.L.Lines.made l.lines);
  stops : g.L.Lines.stops l.fn.lines ≤ g.L.Lines.stops l.lines;
  kind : g.L.Lines.kind l.lines ≡ g.L.Lines.kind l.fn.lines;
}
