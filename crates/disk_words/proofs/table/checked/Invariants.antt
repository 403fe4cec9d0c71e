use Rattle.std.proofs.Common.{◌≡◌, false, drop, map}
use Rattle.clap.specs.{Words.app_of, declared.builder.command.Command.TheViews.out-Command}
use Rattle.command_line.specs.Table.{check_options, leaf_app, with_options}
use Rattle.disk_words.proofs.table.checked.Given as goal

abbrev pub invariant-loop-option : goal.invariant-loop-option
invariant-loop-option l = record {
  rest : with_options (app_of l.command) (map (λ s. s.now) (drop l.option-index l.options))
      ≡ with_options (leaf_app l.name check_options) (map (λ s. s.now) l.options);
  globals : (out-Command l.command).has_globals ≡ false;
}
