use Rattle.std.proofs.Common.{true, ap, codes, ◌∙◌}
use Rattle.clap.specs.{Simple.app_of_fields, Words.{App, with_rule}, declared.builder.command.Command.Command, declared.builder.command.Command.TheOpen.Command-F}
use Rattle.explain_words.specs.Table.{explain_app, flag_rule}
use Rattle.explain_words.proofs.table.explain_command.Goals as goal

pub returns : goal.returns
unfolding explain_app
returns c =
    ap app_of_fields (c.no_binary_name.ensures ∙ ap (λ (f : Command-F Command). record f { no_binary_name = true }) c.disable_help_flag.ensures)
    ∙ ap (λ (a : App). record a { top = record a.top { disable_help_flag = true; no_binary_name = true } })
    (c.in_ok-command.ensures ∙ ap (λ (a : App). with_rule a (flag_rule (codes "strict"))) c.in_ok-check_command.ensures.app)
