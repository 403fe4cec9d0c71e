use Rattle.std.proofs.Common.{refl, sym, ◌∙◌}
use Rattle.command_line.{specs.Jobs.map_of, proofs.Steps.{some_step, none_step}}
use Rattle.command_line.proofs.read.map_lines.Goals as goal

pub returns-in_err-shape-clause-exact : goal.returns-in_err-shape-clause-exact
unfolding map_of
returns-in_err-shape-clause-exact c = c.from_residual.ensures ∙ sym (none_step _ _ (sym c.in_err-shape.ensures.exact))

pub returns-in_err-seed-clause-exact : goal.returns-in_err-seed-clause-exact
unfolding map_of
returns-in_err-seed-clause-exact c = c.from_residual-in_err-seed.ensures ∙ sym (some_step _ _ _ _ (sym c.in_ok-shape.ensures.exact)
    (none_step _ _ (sym c.in_err-seed.ensures)))

pub returns-in_err-from-clause-exact : goal.returns-in_err-from-clause-exact
unfolding map_of
returns-in_err-from-clause-exact c = c.from_residual-in_err-from.ensures ∙ sym (some_step _ _ _ _ (sym c.in_ok-shape.ensures.exact)
    (some_step _ _ _ _ (sym c.in_ok-seed.ensures)
    (none_step _ _ (sym c.in_err-from.ensures.exact))))

pub returns-clause-exact : goal.returns-clause-exact
unfolding map_of
returns-clause-exact c = sym (some_step _ _ _ _ (sym c.in_ok-shape.ensures.exact)
    (some_step _ _ _ _ (sym c.in_ok-seed.ensures)
    (some_step _ _ _ _ (sym c.in_ok-from.ensures.exact)
    (refl))))
