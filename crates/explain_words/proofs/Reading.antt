-- What clap's answer says of the words.
use Rattle.std.proofs.Common.{◌≡◌, ◌≢◌, ◌⊎◌, inl, inr, List, [], true, Option, Some, None, refl, sym, ap, ◌∙◌}
use Rattle.std.specs.{Option.ok_or, Prelude.{Result, Err}}
use Rattle.clap.specs.{Words.{App, IsAmong, Row, Text, fault_of, is_simple, is_simple_and_free, kind_of, matches_of}, declared.error.Error.Error}
use Rattle.clap.specs.{declared.error.kind.ErrorKind.ErrorKind, declared.error.kind.ErrorKind.TheVariants.OutOfMemory}
use Rattle.command_line.specs.{Jobs.{faults_at, or_usage}, Table.leaf_app, declared.job.Refusal.Refusal, declared.job.Refusal.TheVariants.Usage}
use Rattle.command_line.proofs.Reading.{faults-are, refused_by}
use Rattle.explain_words.specs.{Jobs.{job_at, options_at, explain_job_of, explain_of}, Table.explain_app, declared.job.ExplainJob.ExplainJob}

-- clap gives the matches and the faults of the program's command
simple : is_simple explain_app ≡ true
unfolding explain_app leaf_app
simple = refl

free : is_simple_and_free explain_app ≡ true
unfolding explain_app leaf_app
free = refl

-- words that clap takes
taken : (app : App) (words : List Text) → faults_at app words ≡ [] → job_at app words ≡ or_usage (explain_of (options_at app words))
unfolding job_at
taken app words e = rw e refl

-- words that it refuses
refused : (app : App) (words : List Text) (kind : ErrorKind) → IsAmong kind (faults_at app words) → job_at app words ≡ Err Usage
unfolding job_at
refused app words kind among = refused_by kind (faults_at app words) (explain_of (options_at app words)) among

-- the options in terms of clap's own
options-are : (app : App) (words : List Text) → options_at app words ≡ matches_of app words
unfolding options_at
options-are app words = refl

-- the program's own command
own : (words : List Text) (app : App) (r : Result ExplainJob Refusal) → app ≡ explain_app → job_at app words ≡ r → explain_job_of words ≡ r
unfolding explain_job_of
own words app r p e = sym (ap (λ x. job_at x words) p) ∙ e

pub job-of-taken : (words : List Text) (app : App) (rows : List Row) → app ≡ explain_app
    → (is_simple_and_free app ≡ true → fault_of app words ≡ []) → (is_simple app ≡ true → rows ≡ matches_of app words)
    → explain_job_of words ≡ or_usage (explain_of rows)
job-of-taken words app rows p faults matches =
    let none : faults_at app words ≡ [] = faults-are app words ∙ faults (ap is_simple_and_free p ∙ free) in
    let found : options_at app words ≡ rows = options-are app words ∙ sym (matches (ap is_simple p ∙ simple)) in
    own words app _ p (taken app words none ∙ ap (λ r. or_usage (explain_of r)) found)

pub job-of-refused : (words : List Text) (app : App) (e : Error) → app ≡ explain_app
    → (is_simple_and_free app ≡ true → (kind_of e ≡ OutOfMemory) ⊎ IsAmong (kind_of e) (fault_of app words))
    → kind_of e ≢ OutOfMemory → explain_job_of words ≡ Err Usage
job-of-refused words app e p kinds other =
    let some : IsAmong (kind_of e) (faults_at app words) = elim (kinds (ap is_simple_and_free p ∙ free)) [
      | inl memory ↦ absurd (other memory)
      | inr among ↦ rw (faults-are app words) among
    ] in
    own words app _ p (refused app words (kind_of e) some)

-- a job or a faulty command line, in std's words
pub usage-or : (job : Option ExplainJob) → or_usage job ≡ ok_or job Usage
usage-or None = refl
usage-or (Some job) = refl
