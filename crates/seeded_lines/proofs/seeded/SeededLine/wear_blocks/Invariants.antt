use Rattle.std.proofs.Common.{◌≡◌, ◌*◌}
use Rattle.cell_rows.specs.Rows.{cell}
use Rattle.seeded_lines.specs.{Follows.FollowsIn, Seeded.{seeded, seeded_cell}}
use Rattle.seeded_lines.proofs.seeded.SeededLine.wear_blocks.Given as goal

-- the blocks so far have worn
abbrev pub invariant-loop-block : goal.invariant-loop-block
invariant-loop-block g l = record {
  cells : FollowsIn 0 (64 * l.block) (cell l.mask) (seeded l.tearing (cell l.want)) (seeded_cell l.initial.self) (seeded_cell l.self);
  pulses : l.self.line.pulses ≡ l.initial.self.line.pulses;
}
