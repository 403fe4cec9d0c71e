use Rattle.std.proofs.Common.{◌≡◌, map, ap, sym, ◌∙◌}
use Rattle.std.{specs.Prelude.{Err, string_bytes}, proofs.lemmas.Result.err_from_is_err_and}
use Rattle.clap.specs.Words.{app_of, found_of, kind_of, rows_of}
use Rattle.command_line.{specs.Jobs.or_usage, proofs.Reading.{told-by, usage-by}}
use Rattle.disk_words.{specs.Jobs.{disk_job_of, disk_of}, proofs.Reading.{err-by, job-of-taken, job-of-refused, ok-by}}
use Rattle.disk_words.proofs.read.read_disk_job.Goals as goal

-- the words ask for what the options do
taken : (c : goal.Joined-matches) → disk_job_of (map string_bytes c.args.words.now) ≡ or_usage (disk_of (rows_of (found_of c.in_ok-matches.matches)))
taken c =
    let met = c.in_ok-matches.ensures in
    job-of-taken _ (app_of c.in_ok-command.command) (rows_of (found_of c.in_ok-matches.matches))
    c.in_ok-command.ensures met.kinds (λ simple. (met.matches simple).0)

pub returns-clause-ok : goal.returns-clause-ok
returns-clause-ok c = ok-by c.job.result _ _ (taken c) c.job.ensures.ok

pub returns-clause-err : goal.returns-clause-err
returns-clause-err c = err-by c.job.result _ _ (taken c) c.job.ensures.err

pub returns-in_err-matches-clause-err : goal.returns-in_err-matches-clause-err
returns-in_err-matches-clause-err c =
    let error = c.in_err-matches.field-0.0 in
    let gives = err_from_is_err_and c.from_residual-in_err-matches.result c.from_residual-in_err-matches.ensures.1 in
    rw (gives.1, gives.2) (λ other.
    job-of-refused _ (app_of c.in_ok-command.command) error c.in_ok-command.ensures c.in_err-matches.ensures.kinds (told-by (kind_of error) other)
    ∙ ap Err (sym (usage-by (kind_of error) other)))
