use Rattle.std.proofs.Common.{◌≡◌, ℕ, ◌+◌, ◌<◌, ◌≤◌, get_or, []}
use Rattle.atomic_sectors.specs.Lines.{stand}
use Rattle.atomic_sectors.proofs.sectors.read_lines.Given as goal

abbrev pub invariant-loop-i : goal.invariant-loop-i
invariant-loop-i g l = record {
  stands : (j : ℕ) → j < l.i → stand g.row.B (g.L.Lines.made l.fn.lines) (l.first + j) ≡ get_or l.to j [];
  made : g.L.Lines.made l.lines ≡ g.L.Lines.made l.fn.lines;
  stops : g.L.Lines.stops l.fn.lines ≤ g.L.Lines.stops l.lines;
  kind : g.L.Lines.kind l.lines ≡ g.L.Lines.kind l.fn.lines;
}
