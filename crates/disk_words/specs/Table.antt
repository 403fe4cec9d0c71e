-- The options of a disk.
use Rattle.std.specs.Prelude.{List, [], ◌∷◌, codes, true}
use Rattle.clap.specs.Words.{App, Text}
use Rattle.command_line.specs.Table.{check_options, leaf_app, with_options}

-- those of a module that a check doesn't have, and a disk's own
abbrev pub own_options : List Text
own_options =
    codes "psi" ∷ codes "lo" ∷ codes "hi" ∷ codes "misses" ∷ codes "sector" ∷ codes "cuts" ∷ codes "cut-every" ∷ codes "cut-seed"
    ∷ codes "cut-ticks" ∷ codes "on-cut" ∷ []

-- the options of `check`, and these
abbrev pub with_own : App
with_own = with_options (leaf_app (codes "pcm_disk") check_options) own_options

-- the program: it has no help, and its words come without the program's name
unfoldable pub disk_app : App
disk_app = record with_own { top = record with_own.top { disable_help_flag = true; no_binary_name = true } }
