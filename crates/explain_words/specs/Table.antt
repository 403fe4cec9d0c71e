-- The options of an explanation.
use Rattle.std.specs.Prelude.{codes, true, Some}
use Rattle.clap.specs.{Words.{App, Rule, Text, new_rule, with_rule}, declared.builder.action.ArgAction.TheVariants.SetTrue}
use Rattle.command_line.specs.Table.{check_options, leaf_app}

-- an option is written by its name, and takes no value
abbrev pub flag_rule : Text → Rule
flag_rule name = record (new_rule name) { long = Some name; action = Some SetTrue }

-- the options of `check`, and one that asks more of `worn` rows
abbrev pub checked_app : App
checked_app = with_rule (leaf_app (codes "pcm_explain") check_options) (flag_rule (codes "strict"))

-- the program: it has no help, and its words come without the program's name
unfoldable pub explain_app : App
explain_app = record checked_app { top = record checked_app.top { disable_help_flag = true; no_binary_name = true } }
