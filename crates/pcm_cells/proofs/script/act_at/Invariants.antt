use Rattle.std.proofs.Common.{◌≡◌, drop}
use Rattle.pcm_cells.specs.Scripted.{act_at}
use Rattle.pcm_cells.proofs.script.act_at.Given as goal

-- no item so far names the cell at the turn
abbrev pub invariant-loop-item : goal.invariant-loop-item
invariant-loop-item l = act_at l.script l.line l.cell l.turn ≡ act_at (drop l.item-index l.script) l.line l.cell l.turn
