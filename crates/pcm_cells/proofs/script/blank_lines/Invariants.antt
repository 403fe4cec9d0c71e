use Rattle.std.proofs.Common.{◌≡◌, replicate}
use Rattle.pcm_cells.specs.Scripted.{blank_scripted}
use Rattle.pcm_cells.proofs.script.blank_lines.Given as goal

-- the rows so far are blank
abbrev pub invariant-loop-made : goal.invariant-loop-made
invariant-loop-made g l = l.rows.items ≡ replicate l.made (blank_scripted g.row.B g.row.M)
