-- A command that gets its options one by one.
use Rattle.std.proofs.Common.{◌≡◌, ℕ, suc, ◌+◌, ◌<◌, List, [], map, length, get_or, drop, Bor, refl, ap, ◌∙◌, false, arith}
use Rattle.std.{specs.Prelude.{codes, Result, Ok, Err, IfOk}, proofs.Math.Seq.drop-cons}
use Rattle.clap.specs.{Words.{App, Text, AddsSubcommand, app_of, new_app, with_rule, with_subcommand}, declared.builder.command.Command.Command}
use Rattle.clap.specs.declared.builder.command.Command.TheViews.{out-Command}
use Rattle.command_line.specs.Table.{leaf_app, option_rule, with_options, top_app, pcm_app, run_options, gen_options, map_options, moves_options, check_options}

pub options-none : (a : App) (name : Text) (options : List Text) → a ≡ new_app name → with_options a options ≡ leaf_app name options
unfolding leaf_app
options-none a name options e = ap (λ b. with_options b options) e

pub options-next : (a b : App) (options : List (Bor Text)) (i : ℕ) (d : Bor Text) → i < length options
    → b ≡ with_rule a (option_rule (get_or options i d).now)
    → with_options b (map (λ s. s.now) (drop (i + 1) options)) ≡ with_options a (map (λ s. s.now) (drop i options))
options-next a b options i d within e =
    let one : i + 1 ≡ suc i = omega arith in
    rw (one, drop-cons options i d within) (ap (λ c. with_options c (map (λ (s : Bor Text). s.now) (drop (suc i) options))) e)

pub subcommand-added : {E : Type 0} (old sub : Command) (s : App) (r : Result Command E) → (out-Command sub).has_globals ≡ false → app_of sub ≡ s
    → IfOk r (AddsSubcommand old sub) → IfOk r (λ new. app_of new ≡ with_subcommand (app_of old) s.top)
subcommand-added old sub s (Ok new) globals is adds =
    adds.shape globals ∙ ap (λ (t : App). with_subcommand (app_of old) t.top) is
subcommand-added old sub s (Err e) globals is adds = tt

-- the six subcommands, added to the program's command in turn
pub six-added : {E : Type 0} (r : Result Command E) (a b c d e f : App) → a ≡ top_app
    → b ≡ with_subcommand a (leaf_app (codes "run") run_options).top
    → c ≡ with_subcommand b (leaf_app (codes "gen") gen_options).top
    → d ≡ with_subcommand c (leaf_app (codes "map") map_options).top
    → e ≡ with_subcommand d (leaf_app (codes "moves") moves_options).top
    → f ≡ with_subcommand e (leaf_app (codes "show") []).top
    → IfOk r (λ new. app_of new ≡ with_subcommand f (leaf_app (codes "check") check_options).top)
    → IfOk r (λ new. app_of new ≡ pcm_app)
unfolding pcm_app
six-added (Ok new) a b c d e f top run gen map_ moves show last = last ∙ rw (show, moves, map_, gen, run, top) refl
six-added (Err fault) a b c d e f _ _ _ _ _ _ last = tt
