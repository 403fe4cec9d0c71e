use Rattle.std.proofs.Common.{true, ap, ◌∙◌}
use Rattle.std.specs.Prelude.{codes}
use Rattle.clap.specs.{Simple.app_of_fields, Words.{App, with_rule}, declared.builder.command.Command.Command, declared.builder.command.Command.TheOpen.Command-F}
use Rattle.command_line.specs.Table.{option_rule}
use Rattle.stream_words.specs.Table.{stream_app}
use Rattle.stream_words.proofs.table.stream_command.Goals as goal

pub returns : goal.returns
unfolding stream_app
returns c =
    ap app_of_fields (c.no_binary_name.ensures ∙ ap (λ (f : Command-F Command). record f { no_binary_name = true }) c.disable_help_flag.ensures)
    ∙ ap (λ (a : App). record a { top = record a.top { disable_help_flag = true; no_binary_name = true } })
    (c.in_ok-command.ensures.app ∙ ap (λ (a : App). with_rule a (option_rule (codes "last-bank")))
    (c.in_ok-add_option-2.ensures.app ∙ ap (λ (a : App). with_rule a (option_rule (codes "first-bank")))
    (c.in_ok-skipping.ensures.app ∙ ap (λ (a : App). with_rule a (option_rule (codes "skip")))
    (c.in_ok-telling.ensures.app ∙ ap (λ (a : App). with_rule a (option_rule (codes "tell")))
    (c.in_ok-bounded.ensures.app ∙ ap (λ (a : App). with_rule a (option_rule (codes "until")))
    (c.in_ok-ends.ensures.app ∙ ap (λ (a : App). with_rule a (option_rule (codes "every")))
    (c.in_ok-add_option.ensures.app ∙ ap (λ (a : App). with_rule a (option_rule (codes "end"))) c.in_ok-run.ensures.app)))))))
