use Rattle.std.proofs.Common.{◌≡◌, Bool, Some, ap, sym, ◌∙◌}
use Rattle.command_line.{specs.declared.job.CheckJob.CheckJob, proofs.Steps.{some_step, none_step}}
use Rattle.explain_words.specs.{Jobs.explain_of, declared.job.ExplainJob.ExplainJob}
use Rattle.explain_words.proofs.read.explain.Goals as goal

abbrev job_with : CheckJob → Bool → ExplainJob
job_with check strict = record { check = check; strict = strict }

made : (check : CheckJob) (one other : Bool) → one ≡ other → Some (job_with check one) ≡ Some (job_with check other)
made check one other e = ap (λ strict. Some (job_with check strict)) e

pub returns-in_err-line-clause-exact : goal.returns-in_err-line-clause-exact
unfolding explain_of
returns-in_err-line-clause-exact c = c.from_residual.ensures ∙ sym (none_step _ _ (sym c.in_err-line.ensures))

pub returns-in_err-shape-clause-exact : goal.returns-in_err-shape-clause-exact
unfolding explain_of
returns-in_err-shape-clause-exact c = c.from_residual-in_err-shape.ensures ∙ sym (some_step _ _ _ _ (sym c.in_ok-line.ensures)
    (none_step _ _ (sym c.in_err-shape.ensures.exact)))

pub returns-in_err-seed-clause-exact : goal.returns-in_err-seed-clause-exact
unfolding explain_of
returns-in_err-seed-clause-exact c = c.from_residual-in_err-seed.ensures ∙ sym (some_step _ _ _ _ (sym c.in_ok-line.ensures)
    (some_step _ _ _ _ (sym c.in_ok-shape.ensures.exact)
    (none_step _ _ (sym c.in_err-seed.ensures))))

pub returns-clause-exact : goal.returns-clause-exact
unfolding explain_of
returns-clause-exact c = (sym (some_step _ _ _ _ (sym c.in_ok-line.ensures)
    (some_step _ _ _ _ (sym c.in_ok-shape.ensures.exact)
    (some_step _ _ _ _ (sym c.in_ok-seed.ensures)
    (made (record { line = c.in_ok-line.line; shape = c.in_ok-shape.shape; seed = c.in_ok-seed.seed }) _ _ (sym c.strict-strict.ensures))))))
