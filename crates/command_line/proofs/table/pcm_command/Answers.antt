use Rattle.command_line.proofs.Tables.{six-added}
use Rattle.command_line.proofs.table.pcm_command.Goals as goal

pub returns : goal.returns
returns c =
    six-added c.with_leaf-6.result _ _ _ _ _ _ c.top_command-command.ensures c.in_ok-command.ensures c.in_ok-command-2.ensures
    c.in_ok-command-3.ensures c.in_ok-command-4.ensures c.in_ok-command-5.ensures c.with_leaf-6.ensures
