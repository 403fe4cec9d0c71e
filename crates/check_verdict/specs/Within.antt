-- The numbers of the rules.
use Rattle.std.specs.Prelude.{◌≤◌}
use Rattle.row_rules.specs.declared.Rules.{Rules}

-- they are those of a module
pub record AreWithin (rules : Rules) : Type 0 where
  pub some_read : 1 ≤ rules.read_ticks
  pub few_read : rules.read_ticks ≤ 255
  pub few_iter : rules.iter_ticks ≤ 255
  pub few_steps : rules.steps ≤ 208
  pub few_spares : rules.spares ≤ 65536
