use Rattle.std.proofs.Common.{◌≡◌, ◌*◌}
use Rattle.cell_rows.specs.Rows.{cell}
use Rattle.seeded_lines.specs.Follows.{FollowsIn}
use Rattle.pcm_cells.specs.Scripted.{scripted, scripted_cell}
use Rattle.pcm_cells.proofs.script.ScriptLine.turn_group.Given as goal

-- the cells of the group so far have followed the script
abbrev pub invariant-loop-number : goal.invariant-loop-number
invariant-loop-number g l = record {
  cells : FollowsIn (8 * l.group) l.number (cell l.mask) (scripted l.script l.line l.tearing (cell l.want)) (scripted_cell l.initial.self) (scripted_cell l.self);
  pulses : l.self.line.pulses ≡ l.initial.self.line.pulses;
}
