use Rattle.std.proofs.Common.{true, ap, ◌∙◌}
use Rattle.clap.specs.{Simple.app_of_fields, Words.App, declared.builder.command.Command.Command, declared.builder.command.Command.TheOpen.Command-F}
use Rattle.disk_words.specs.Table.{disk_app}
use Rattle.disk_words.proofs.table.disk_command.Goals as goal

pub returns : goal.returns
unfolding disk_app
returns c =
    ap app_of_fields (c.no_binary_name.ensures ∙ ap (λ (f : Command-F Command). record f { no_binary_name = true }) c.disable_help_flag.ensures)
    ∙ ap (λ (a : App). record a { top = record a.top { disable_help_flag = true; no_binary_name = true } }) c.in_ok-command.ensures.app
