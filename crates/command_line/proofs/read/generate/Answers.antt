use Rattle.std.proofs.Common.{refl, sym, ◌∙◌}
use Rattle.command_line.{specs.Jobs.gen_of, proofs.Steps.{some_step, none_step}}
use Rattle.command_line.proofs.read.generate.Goals as goal

pub returns-in_err-line-clause-exact : goal.returns-in_err-line-clause-exact
unfolding gen_of
returns-in_err-line-clause-exact c = c.from_residual.ensures ∙ sym (none_step _ _ (sym c.in_err-line.ensures))

pub returns-in_err-shape-clause-exact : goal.returns-in_err-shape-clause-exact
unfolding gen_of
returns-in_err-shape-clause-exact c = c.from_residual-in_err-shape.ensures ∙ sym (some_step _ _ _ _ (sym c.in_ok-line.ensures)
    (none_step _ _ (sym c.in_err-shape.ensures.exact)))

pub returns-in_err-seed-clause-exact : goal.returns-in_err-seed-clause-exact
unfolding gen_of
returns-in_err-seed-clause-exact c = c.from_residual-in_err-seed.ensures ∙ sym (some_step _ _ _ _ (sym c.in_ok-line.ensures)
    (some_step _ _ _ _ (sym c.in_ok-shape.ensures.exact)
    (none_step _ _ (sym c.in_err-seed.ensures))))

pub returns-in_err-mix-clause-exact : goal.returns-in_err-mix-clause-exact
unfolding gen_of
returns-in_err-mix-clause-exact c = c.from_residual-in_err-mix.ensures ∙ sym (some_step _ _ _ _ (sym c.in_ok-line.ensures)
    (some_step _ _ _ _ (sym c.in_ok-shape.ensures.exact)
    (some_step _ _ _ _ (sym c.in_ok-seed.ensures)
    (none_step _ _ (sym c.in_err-mix.ensures.exact)))))

pub returns-clause-exact : goal.returns-clause-exact
unfolding gen_of
returns-clause-exact c = sym (some_step _ _ _ _ (sym c.in_ok-line.ensures)
    (some_step _ _ _ _ (sym c.in_ok-shape.ensures.exact)
    (some_step _ _ _ _ (sym c.in_ok-seed.ensures)
    (some_step _ _ _ _ (sym c.in_ok-mix.ensures.exact)
    (refl)))))
