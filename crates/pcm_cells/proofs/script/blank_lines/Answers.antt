use Rattle.std.proofs.Common.{◌∙◌}
use Rattle.std.proofs.lemmas.List.{replicate_more}
use Rattle.pcm_cells.specs.Scripted.{blank_scripted}
use Rattle.pcm_cells.proofs.script.blank_lines.Goals as goal

pub loop-made-preserved : goal.loop-made-preserved
loop-made-preserved g c =
    c.in_ok-push.ensures.items
    ∙ rw (c.loop-made.invariant, c.in_ok-blank.ensures) (replicate_more c.loop-made.made (blank_scripted g.row.B g.row.M))
