use Rattle.std.proofs.Common.{◌≡◌, ◌≢◌, map, sym, ap, ◌∙◌}
use Rattle.std.{specs.Prelude.{Err, string_bytes}, proofs.lemmas.Result.err_from_is_err_and}
use Rattle.clap.specs.Words.{app_of, found_of, kind_of, rows_of}
use Rattle.command_line.{specs.Jobs.or_usage, specs.declared.job.Refusal.TheVariants.NoMemory, proofs.Reading.{ok-of, err-of, told-by, usage-by}}
use Rattle.explain_words.{specs.Jobs.explain_job_of, proofs.Reading.{job-of-taken, job-of-refused, usage-or}}
use Rattle.explain_words.proofs.read.read_explain_job.Goals as goal

-- the answer is the job of the words
answered : (c : goal.Joined-matches) → explain_job_of (map string_bytes c.args.words.now) ≡ c.ok_or.result
answered c =
    let met = c.in_ok-matches.ensures in
    job-of-taken _ (app_of c.in_ok-command.command) (rows_of (found_of c.in_ok-matches.matches))
    c.in_ok-command.ensures met.kinds (λ simple. (met.matches simple).0)
    ∙ ap or_usage (sym c.explain.ensures.exact) ∙ usage-or c.explain.result ∙ sym c.ok_or.ensures.value

pub returns-clause-ok : goal.returns-clause-ok
returns-clause-ok c = ok-of c.ok_or.result _ (answered c)

pub returns-clause-err : goal.returns-clause-err
returns-clause-err c = err-of c.ok_or.result _ (answered c) (λ e. e ≢ NoMemory)

pub returns-in_err-matches-clause-err : goal.returns-in_err-matches-clause-err
returns-in_err-matches-clause-err c =
    let error = c.in_err-matches.field-0.0 in
    let gives = err_from_is_err_and c.from_residual-in_err-matches.result c.from_residual-in_err-matches.ensures.1 in
    rw (gives.1, gives.2) (λ other.
    job-of-refused _ (app_of c.in_ok-command.command) error c.in_ok-command.ensures c.in_err-matches.ensures.kinds (told-by (kind_of error) other)
    ∙ ap Err (sym (usage-by (kind_of error) other)))
