use Rattle.std.proofs.Common.{◌≡◌, ◌*◌, ◌^◌, ◌<◌, ◌≤◌}
use Rattle.atomic_sectors.specs.{Lines.stand, Sectors.{total, block_of, word_at, word_line}}
use Rattle.atomic_sectors.proofs.sectors.Sectors.open.Given as goal

abbrev pub invariant-loop-sector : goal.invariant-loop-sector
invariant-loop-sector g l = record {
  all : l.all ≡ total l.sector (λ block. block);
  used : l.used ≡ total l.sector (block_of g.row.B l.layout (stand g.row.B (g.L.Lines.made l.fn.lines)));
  all_few : l.all ≤ 2 ^ 26 * l.sector;
  used_few : l.used ≤ 2 ^ 26 * l.sector;
  held : 0 < word_at g.row.B l.layout l.sector → stand g.row.B (g.L.Lines.made l.fn.lines) (word_line g.row.B l.layout l.sector) ≡ l.held;
  made : g.L.Lines.made l.lines ≡ g.L.Lines.made l.fn.lines;
  stops : g.L.Lines.stops l.fn.lines ≤ g.L.Lines.stops l.lines;
  kind : g.L.Lines.kind l.lines ≡ g.L.Lines.kind l.fn.lines;
}
