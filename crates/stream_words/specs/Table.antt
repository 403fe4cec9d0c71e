-- The options of a stream.
use Rattle.std.specs.Prelude.{codes, true}
use Rattle.clap.specs.Words.{App, with_rule}
use Rattle.command_line.specs.Table.{leaf_app, option_rule, run_options}

-- the options of `run`, one for the end, one for snapshots, one for where the rows end, one for what is told in front of them, and one for
-- what reports leave out
abbrev pub with_end : App
with_end =
    with_rule (with_rule (with_rule (with_rule (with_rule (with_rule (with_rule (leaf_app (codes "pcm_stream") run_options) (option_rule (codes "end"))) (option_rule (codes "every")))
    (option_rule (codes "until"))) (option_rule (codes "tell"))) (option_rule (codes "skip")))
    (option_rule (codes "first-bank"))) (option_rule (codes "last-bank"))

-- the program: it has no help, and its words come without the program's name
unfoldable pub stream_app : App
stream_app = record with_end { top = record with_end.top { disable_help_flag = true; no_binary_name = true } }
