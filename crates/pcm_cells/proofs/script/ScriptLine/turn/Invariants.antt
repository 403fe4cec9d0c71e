use Rattle.std.proofs.Common.{◌≡◌, ◌*◌}
use Rattle.cell_rows.specs.Rows.{cell}
use Rattle.seeded_lines.specs.Follows.{FollowsIn}
use Rattle.pcm_cells.specs.Scripted.{scripted, scripted_cell}
use Rattle.pcm_cells.proofs.script.ScriptLine.turn.Given as goal

-- the groups so far have followed the script
abbrev pub invariant-loop-group : goal.invariant-loop-group
invariant-loop-group g l = record {
  cells : FollowsIn 0 (8 * l.group) (cell l.mask) (scripted l.script l.line l.tearing (cell l.want)) (scripted_cell l.initial.self) (scripted_cell l.self);
  pulses : l.self.line.pulses ≡ l.initial.self.line.pulses;
}
