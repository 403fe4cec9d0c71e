-- What clap's answer says of the words.
use Rattle.std.proofs.Common.{◌≡◌, ◌≢◌, ◌⊎◌, inl, inr, List, [], true, Option, Some, None, refl, sym, ap, ◌∙◌}
use Rattle.std.specs.{Option.ok_or, Prelude.{Result, Ok, Err, IfOk, IfErr}}
use Rattle.clap.specs.{Words.{App, IsAmong, Row, Text, fault_of, is_simple, is_simple_and_free, kind_of, matches_of}, declared.error.Error.Error}
use Rattle.clap.specs.{declared.error.kind.ErrorKind.ErrorKind, declared.error.kind.ErrorKind.TheVariants.OutOfMemory}
use Rattle.command_line.specs.{Jobs.{faults_at, or_usage}, Table.leaf_app, declared.job.Refusal.Refusal, declared.job.Refusal.TheVariants.{Usage, NoMemory}}
use Rattle.command_line.proofs.Reading.{faults-are, refused_by}
use Rattle.disk_words.specs.{Jobs.{DiskAsked, asked_by, job_at, options_at, disk_job_of, disk_of}, Table.disk_app, declared.job.DiskJob.DiskJob}

-- clap gives the matches and the faults of the program's command
simple : is_simple disk_app ≡ true
unfolding disk_app leaf_app
simple = refl

free : is_simple_and_free disk_app ≡ true
unfolding disk_app leaf_app
free = refl

-- words that clap takes
taken : (app : App) (words : List Text) → faults_at app words ≡ [] → job_at app words ≡ or_usage (disk_of (options_at app words))
unfolding job_at
taken app words e = rw e refl

-- words that it refuses
refused : (app : App) (words : List Text) (kind : ErrorKind) → IsAmong kind (faults_at app words) → job_at app words ≡ Err Usage
unfolding job_at
refused app words kind among = refused_by kind (faults_at app words) (disk_of (options_at app words)) among

-- the options in terms of clap's own
options-are : (app : App) (words : List Text) → options_at app words ≡ matches_of app words
unfolding options_at
options-are app words = refl

-- the program's own command
own : (words : List Text) (app : App) (r : Result DiskAsked Refusal) → app ≡ disk_app → job_at app words ≡ r → disk_job_of words ≡ r
unfolding disk_job_of
own words app r p e = sym (ap (λ x. job_at x words) p) ∙ e

pub job-of-taken : (words : List Text) (app : App) (rows : List Row) → app ≡ disk_app
    → (is_simple_and_free app ≡ true → fault_of app words ≡ []) → (is_simple app ≡ true → rows ≡ matches_of app words)
    → disk_job_of words ≡ or_usage (disk_of rows)
job-of-taken words app rows p faults matches =
    let none : faults_at app words ≡ [] = faults-are app words ∙ faults (ap is_simple_and_free p ∙ free) in
    let found : options_at app words ≡ rows = options-are app words ∙ sym (matches (ap is_simple p ∙ simple)) in
    own words app _ p (taken app words none ∙ ap (λ r. or_usage (disk_of r)) found)

pub job-of-refused : (words : List Text) (app : App) (e : Error) → app ≡ disk_app
    → (is_simple_and_free app ≡ true → (kind_of e ≡ OutOfMemory) ⊎ IsAmong (kind_of e) (fault_of app words))
    → kind_of e ≢ OutOfMemory → disk_job_of words ≡ Err Usage
job-of-refused words app e p kinds other =
    let some : IsAmong (kind_of e) (faults_at app words) = elim (kinds (ap is_simple_and_free p ∙ free)) [
      | inl memory ↦ absurd (other memory)
      | inr among ↦ rw (faults-are app words) among
    ] in
    own words app _ p (refused app words (kind_of e) some)

-- a job or a faulty command line, in std's words
pub usage-or : (job : Option DiskAsked) → or_usage job ≡ ok_or job Usage
usage-or None = refl
usage-or (Some job) = refl

-- what the job's own answer says is said of the words
pub ok-by : (r : Result DiskJob Refusal) (o : Option DiskAsked) (whole : Result DiskAsked Refusal) → whole ≡ or_usage o
    → IfOk r (λ job. o ≡ Some (asked_by job)) → IfOk r (λ job. whole ≡ Ok (asked_by job))
ok-by (Ok job) o whole is said = is ∙ ap or_usage said
ok-by (Err e) o whole is said = tt

pub err-by : (r : Result DiskJob Refusal) (o : Option DiskAsked) (whole : Result DiskAsked Refusal) → whole ≡ or_usage o
    → IfErr r (λ e. e ≢ NoMemory → or_usage o ≡ Err e) → IfErr r (λ e. e ≢ NoMemory → whole ≡ Err e)
err-by (Ok job) o whole is said = tt
err-by (Err e) o whole is said = λ other. is ∙ said other
