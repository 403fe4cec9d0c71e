use Rattle.std.proofs.Common.{refl, sym, ◌∙◌}
use Rattle.command_line.proofs.Steps.{some_step, none_step}
use Rattle.stream_words.specs.Jobs.{stream_of}
use Rattle.stream_words.proofs.read.stream.Goals as goal

pub returns-in_err-line-clause-exact : goal.returns-in_err-line-clause-exact
unfolding stream_of
returns-in_err-line-clause-exact c = c.from_residual.ensures ∙ sym (none_step _ _ (sym c.in_err-line.ensures))

pub returns-in_err-shape-clause-exact : goal.returns-in_err-shape-clause-exact
unfolding stream_of
returns-in_err-shape-clause-exact c = c.from_residual-in_err-shape.ensures ∙ sym (some_step _ _ _ _ (sym c.in_ok-line.ensures)
    (none_step _ _ (sym c.in_err-shape.ensures.exact)))

pub returns-in_err-seed-clause-exact : goal.returns-in_err-seed-clause-exact
unfolding stream_of
returns-in_err-seed-clause-exact c = c.from_residual-in_err-seed.ensures ∙ sym (some_step _ _ _ _ (sym c.in_ok-line.ensures)
    (some_step _ _ _ _ (sym c.in_ok-shape.ensures.exact)
    (none_step _ _ (sym c.in_err-seed.ensures))))

pub returns-in_err-wear-clause-exact : goal.returns-in_err-wear-clause-exact
unfolding stream_of
returns-in_err-wear-clause-exact c = c.from_residual-in_err-wear.ensures ∙ sym (some_step _ _ _ _ (sym c.in_ok-line.ensures)
    (some_step _ _ _ _ (sym c.in_ok-shape.ensures.exact)
    (some_step _ _ _ _ (sym c.in_ok-seed.ensures)
    (none_step _ _ (sym c.in_err-wear.ensures.exact)))))

pub returns-in_err-print-clause-exact : goal.returns-in_err-print-clause-exact
unfolding stream_of
returns-in_err-print-clause-exact c = c.from_residual-in_err-print.ensures ∙ sym (some_step _ _ _ _ (sym c.in_ok-line.ensures)
    (some_step _ _ _ _ (sym c.in_ok-shape.ensures.exact)
    (some_step _ _ _ _ (sym c.in_ok-seed.ensures)
    (some_step _ _ _ _ (sym c.in_ok-wear.ensures.exact)
    (none_step _ _ (sym c.in_err-print.ensures.exact))))))

pub returns-in_err-mix-clause-exact : goal.returns-in_err-mix-clause-exact
unfolding stream_of
returns-in_err-mix-clause-exact c = c.from_residual-in_err-mix.ensures ∙ sym (some_step _ _ _ _ (sym c.in_ok-line.ensures)
    (some_step _ _ _ _ (sym c.in_ok-shape.ensures.exact)
    (some_step _ _ _ _ (sym c.in_ok-seed.ensures)
    (some_step _ _ _ _ (sym c.in_ok-wear.ensures.exact)
    (some_step _ _ _ _ (sym c.in_ok-print.ensures.exact)
    (none_step _ _ (sym c.in_err-mix.ensures.exact)))))))

pub returns-in_err-input-clause-exact : goal.returns-in_err-input-clause-exact
unfolding stream_of
returns-in_err-input-clause-exact c = c.from_residual-in_err-input.ensures ∙ sym (some_step _ _ _ _ (sym c.in_ok-line.ensures)
    (some_step _ _ _ _ (sym c.in_ok-shape.ensures.exact)
    (some_step _ _ _ _ (sym c.in_ok-seed.ensures)
    (some_step _ _ _ _ (sym c.in_ok-wear.ensures.exact)
    (some_step _ _ _ _ (sym c.in_ok-print.ensures.exact)
    (some_step _ _ _ _ (sym c.in_ok-mix.ensures.exact)
    (none_step _ _ (sym c.in_err-input.ensures.exact))))))))

pub returns-in_err-end-clause-exact : goal.returns-in_err-end-clause-exact
unfolding stream_of
returns-in_err-end-clause-exact c = c.from_residual-in_err-end.ensures ∙ sym (some_step _ _ _ _ (sym c.in_ok-line.ensures)
    (some_step _ _ _ _ (sym c.in_ok-shape.ensures.exact)
    (some_step _ _ _ _ (sym c.in_ok-seed.ensures)
    (some_step _ _ _ _ (sym c.in_ok-wear.ensures.exact)
    (some_step _ _ _ _ (sym c.in_ok-print.ensures.exact)
    (some_step _ _ _ _ (sym c.in_ok-mix.ensures.exact)
    (some_step _ _ _ _ (sym c.in_ok-input.ensures.exact)
    (none_step _ _ (sym c.in_err-end.ensures)))))))))

pub returns-in_err-until-clause-exact : goal.returns-in_err-until-clause-exact
unfolding stream_of
returns-in_err-until-clause-exact c = c.from_residual-in_err-until.ensures ∙ sym (some_step _ _ _ _ (sym c.in_ok-line.ensures)
    (some_step _ _ _ _ (sym c.in_ok-shape.ensures.exact)
    (some_step _ _ _ _ (sym c.in_ok-seed.ensures)
    (some_step _ _ _ _ (sym c.in_ok-wear.ensures.exact)
    (some_step _ _ _ _ (sym c.in_ok-print.ensures.exact)
    (some_step _ _ _ _ (sym c.in_ok-mix.ensures.exact)
    (some_step _ _ _ _ (sym c.in_ok-input.ensures.exact)
    (some_step _ _ _ _ (sym c.in_ok-end.ensures)
    (none_step _ _ (sym c.in_err-until.ensures))))))))))

pub returns-in_err-banks-clause-exact : goal.returns-in_err-banks-clause-exact
unfolding stream_of
returns-in_err-banks-clause-exact c = c.from_residual-in_err-banks.ensures ∙ sym (some_step _ _ _ _ (sym c.in_ok-line.ensures)
    (some_step _ _ _ _ (sym c.in_ok-shape.ensures.exact)
    (some_step _ _ _ _ (sym c.in_ok-seed.ensures)
    (some_step _ _ _ _ (sym c.in_ok-wear.ensures.exact)
    (some_step _ _ _ _ (sym c.in_ok-print.ensures.exact)
    (some_step _ _ _ _ (sym c.in_ok-mix.ensures.exact)
    (some_step _ _ _ _ (sym c.in_ok-input.ensures.exact)
    (some_step _ _ _ _ (sym c.in_ok-end.ensures)
    (some_step _ _ _ _ (sym c.in_ok-until.ensures)
    (none_step _ _ (sym c.in_err-banks.ensures)))))))))))

pub returns-clause-exact : goal.returns-clause-exact
unfolding stream_of
returns-clause-exact c = sym (some_step _ _ _ _ (sym c.in_ok-line.ensures)
    (some_step _ _ _ _ (sym c.in_ok-shape.ensures.exact)
    (some_step _ _ _ _ (sym c.in_ok-seed.ensures)
    (some_step _ _ _ _ (sym c.in_ok-wear.ensures.exact)
    (some_step _ _ _ _ (sym c.in_ok-print.ensures.exact)
    (some_step _ _ _ _ (sym c.in_ok-mix.ensures.exact)
    (some_step _ _ _ _ (sym c.in_ok-input.ensures.exact)
    (some_step _ _ _ _ (sym c.in_ok-end.ensures)
    (some_step _ _ _ _ (sym c.in_ok-until.ensures)
    (some_step _ _ _ _ (sym c.in_ok-banks.ensures)
    refl))))))))))
