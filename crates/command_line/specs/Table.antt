-- The commands and their options.
use Rattle.std.specs.Prelude.{List, [], ◌∷◌, codes, true, Some}
use Rattle.clap.specs.{Words.{App, Rule, Text, new_app, new_rule, with_rule, with_subcommand}, declared.builder.action.ArgAction.TheVariants.Set}

-- an option is written by its name, and takes one value
abbrev pub option_rule : Text → Rule
option_rule name = record (new_rule name) { long = Some name; action = Some Set }

-- a command with more options
abbrev pub with_options : App → List Text → App
with_options app [] = app
with_options app (name ∷ rest) = with_options (with_rule app (option_rule name)) rest

-- a command of this name with these options
unfoldable pub leaf_app : Text → List Text → App
leaf_app name options = with_options (new_app name) options

-- the options of each command
abbrev pub run_options : List Text
run_options =
    codes "banks" ∷ codes "regions" ∷ codes "lines" ∷ codes "line" ∷ codes "spares" ∷ codes "write-queue"
    ∷ codes "read-queue" ∷ codes "psi" ∷ codes "read-ticks" ∷ codes "iter-ticks" ∷ codes "policy" ∷ codes "registers" ∷ codes "seed"
    ∷ codes "lo" ∷ codes "hi" ∷ codes "misses" ∷ codes "print" ∷ codes "input" ∷ codes "rows"
    ∷ codes "write-percent" ∷ codes "cuts" ∷ codes "step" ∷ codes "hot" ∷ []

abbrev pub gen_options : List Text
gen_options =
    codes "banks" ∷ codes "regions" ∷ codes "lines" ∷ codes "line" ∷ codes "seed" ∷ codes "rows"
    ∷ codes "write-percent" ∷ codes "cuts" ∷ codes "step" ∷ codes "hot" ∷ []

abbrev pub map_options : List Text
map_options =
    codes "banks" ∷ codes "regions" ∷ codes "lines" ∷ codes "spares" ∷ codes "registers" ∷ codes "seed" ∷ codes "from" ∷ []

abbrev pub moves_options : List Text
moves_options = codes "lines" ∷ codes "from" ∷ []

abbrev pub check_options : List Text
check_options =
    codes "banks" ∷ codes "regions" ∷ codes "lines" ∷ codes "line" ∷ codes "spares" ∷ codes "write-queue"
    ∷ codes "read-queue" ∷ codes "read-ticks" ∷ codes "iter-ticks" ∷ codes "policy" ∷ codes "registers" ∷ codes "seed" ∷ []

-- the program: it has no help
abbrev pub top_app : App
top_app = record (new_app (codes "pcm")) {
  top = record (new_app (codes "pcm")).top { disable_help_flag = true; disable_help_subcommand = true };
}

-- the program with its six commands; `show` has no option
unfoldable pub pcm_app : App
pcm_app =
    with_subcommand (with_subcommand (with_subcommand (with_subcommand (with_subcommand (with_subcommand top_app
    (leaf_app (codes "run") run_options).top)
    (leaf_app (codes "gen") gen_options).top)
    (leaf_app (codes "map") map_options).top)
    (leaf_app (codes "moves") moves_options).top)
    (leaf_app (codes "show") []).top)
    (leaf_app (codes "check") check_options).top
