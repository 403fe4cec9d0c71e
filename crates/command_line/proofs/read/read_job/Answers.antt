use Rattle.std.proofs.Common.{◌≡◌, ◌≢◌, map, sym, ap, ◌∙◌}
use Rattle.std.{specs.Prelude.{Err, string_bytes}, proofs.lemmas.Result.err_from_is_err_and}
use Rattle.clap.specs.Words.{app_of, kind_of, subcommand_rows_of}
use Rattle.command_line.{specs.Jobs.job_of, specs.declared.job.Refusal.TheVariants.NoMemory, proofs.Reading.{job-of-taken, job-of-refused, ok-of, err-of, told-by, usage-by}}
use Rattle.command_line.proofs.read.read_job.Goals as goal

-- the answer is the job of the words
answered : (c : goal.After-drop-all-2) → job_of (map string_bytes c.args.words.now) ≡ c.job.result
answered c =
    let met = c.in_ok-matches.ensures in
    job-of-taken _ _ (app_of c.in_ok-command.command) (subcommand_rows_of c.in_ok-matches.matches)
    (ap (map (λ s. s.now)) c.as_slice.ensures.value ∙ c.in_ok-all.ensures) c.in_ok-command.ensures met.kinds (λ simple. (met.matches simple).1)
    ∙ sym c.job.ensures.exact

pub returns-clause-ok : goal.returns-clause-ok
returns-clause-ok c = ok-of c.job.result _ (answered c)

pub returns-clause-err : goal.returns-clause-err
returns-clause-err c = err-of c.job.result _ (answered c) (λ e. e ≢ NoMemory)

pub returns-in_err-matches-clause-err : goal.returns-in_err-matches-clause-err
returns-in_err-matches-clause-err c =
    let error = c.in_err-matches.field-0.0 in
    let gives = err_from_is_err_and c.from_residual-in_err-matches.result c.from_residual-in_err-matches.ensures.1 in
    rw (gives.1, gives.2) (λ other.
    job-of-refused _ _ (app_of c.in_ok-command.command) error
    (ap (map (λ s. s.now)) c.as_slice.ensures.value ∙ c.in_ok-all.ensures) c.in_ok-command.ensures c.in_err-matches.ensures.kinds (told-by (kind_of error) other)
    ∙ ap Err (sym (usage-by (kind_of error) other)))
