use Rattle.std.proofs.Common.{refl, sym, ◌∙◌}
use Rattle.command_line.proofs.Steps.{some_step, none_step}
use Rattle.disk_words.specs.Jobs.{plan_of}
use Rattle.disk_words.proofs.read.plan.Goals as goal

pub returns-in_err-line-clause-exact : goal.returns-in_err-line-clause-exact
unfolding plan_of
returns-in_err-line-clause-exact c = c.from_residual.ensures ∙ sym (none_step _ _ (sym c.in_err-line.ensures))

pub returns-in_err-shape-clause-exact : goal.returns-in_err-shape-clause-exact
unfolding plan_of
returns-in_err-shape-clause-exact c = c.from_residual-in_err-shape.ensures ∙ sym (some_step _ _ _ _ (sym c.in_ok-line.ensures)
    (none_step _ _ (sym c.in_err-shape.ensures.exact)))

pub returns-in_err-seed-clause-exact : goal.returns-in_err-seed-clause-exact
unfolding plan_of
returns-in_err-seed-clause-exact c = c.from_residual-in_err-seed.ensures ∙ sym (some_step _ _ _ _ (sym c.in_ok-line.ensures)
    (some_step _ _ _ _ (sym c.in_ok-shape.ensures.exact)
    (none_step _ _ (sym c.in_err-seed.ensures))))

pub returns-in_err-wear-clause-exact : goal.returns-in_err-wear-clause-exact
unfolding plan_of
returns-in_err-wear-clause-exact c = c.from_residual-in_err-wear.ensures ∙ sym (some_step _ _ _ _ (sym c.in_ok-line.ensures)
    (some_step _ _ _ _ (sym c.in_ok-shape.ensures.exact)
    (some_step _ _ _ _ (sym c.in_ok-seed.ensures)
    (none_step _ _ (sym c.in_err-wear.ensures.exact)))))

pub returns-in_err-layout-clause-exact : goal.returns-in_err-layout-clause-exact
unfolding plan_of
returns-in_err-layout-clause-exact c = c.from_residual-in_err-layout.ensures ∙ sym (some_step _ _ _ _ (sym c.in_ok-line.ensures)
    (some_step _ _ _ _ (sym c.in_ok-shape.ensures.exact)
    (some_step _ _ _ _ (sym c.in_ok-seed.ensures)
    (some_step _ _ _ _ (sym c.in_ok-wear.ensures.exact)
    (none_step _ _ (sym c.in_err-layout.ensures.exact))))))

pub returns-in_err-on_cut-clause-exact : goal.returns-in_err-on_cut-clause-exact
unfolding plan_of
returns-in_err-on_cut-clause-exact c = c.from_residual-in_err-on_cut.ensures ∙ sym (some_step _ _ _ _ (sym c.in_ok-line.ensures)
    (some_step _ _ _ _ (sym c.in_ok-shape.ensures.exact)
    (some_step _ _ _ _ (sym c.in_ok-seed.ensures)
    (some_step _ _ _ _ (sym c.in_ok-wear.ensures.exact)
    (some_step _ _ _ _ (sym c.in_ok-layout.ensures.exact)
    (none_step _ _ (sym c.in_err-on_cut.ensures)))))))

pub returns-clause-exact : goal.returns-clause-exact
unfolding plan_of
returns-clause-exact c = sym (some_step _ _ _ _ (sym c.in_ok-line.ensures)
    (some_step _ _ _ _ (sym c.in_ok-shape.ensures.exact)
    (some_step _ _ _ _ (sym c.in_ok-seed.ensures)
    (some_step _ _ _ _ (sym c.in_ok-wear.ensures.exact)
    (some_step _ _ _ _ (sym c.in_ok-layout.ensures.exact)
    (some_step _ _ _ _ (sym c.in_ok-on_cut.ensures)
    refl))))))
