use Rattle.std.proofs.Common.{map, ap, ◌∙◌}
use Rattle.command_line.specs.Table.{with_options}
use Rattle.disk_words.proofs.Tables.{options-next}
use Rattle.disk_words.proofs.table.checked.Goals as goal

pub loop-option-init : goal.loop-option-init
loop-option-init c = record {
  rest = ap (λ a. with_options a (map (λ s. s.now) c.args.options.now)) c.in_ok-command.ensures.app;
  globals = c.in_ok-command.ensures.globals;
}

pub loop-option-preserved : goal.loop-option-preserved
loop-option-preserved c =
    let added = c.in_ok-command-2.ensures in
    record {
      rest = options-next _ _ c.args.options.now c.loop-option.option-index _ c.loop-option-test.true added.app ∙ c.loop-option.invariant.rest;
      globals = added.globals;
    }
