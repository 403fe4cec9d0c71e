-- What clap's answer says of the words.
use Rattle.std.proofs.Common.{◌≡◌, ◌≢◌, ◌⊎◌, inl, inr, List, [], ◌∷◌, true, Option, refl, sym, ap, ◌∙◌}
use Rattle.std.specs.Prelude.{codes, Result, Ok, Err, IfOk, IfErr}
use Rattle.clap.specs.{Words.{App, IsAmong, Kinds, Row, Text, fault_of, is_simple, is_simple_and_free, kind_of, subcommand_of}, declared.error.Error.Error}
use Rattle.clap.specs.{declared.error.kind.ErrorKind.ErrorKind, declared.error.kind.ErrorKind.TheVariants.OutOfMemory}
use Rattle.command_line.specs.{Jobs.{answer_of, command_at, faults_at, job_at, job_met, job_of, or_usage}, Refusals.refusal_by, Table.{leaf_app, pcm_app}, declared.job.Job.Job}
use Rattle.command_line.specs.{declared.job.Refusal.Refusal, declared.job.Refusal.TheVariants.{Usage, NoMemory}}

-- clap gives the matches and the faults of the program's command
simple : is_simple pcm_app ≡ true
unfolding pcm_app leaf_app
simple = refl

free : is_simple_and_free pcm_app ≡ true
unfolding pcm_app leaf_app
free = refl

-- words that clap takes
taken : (app : App) (all : List Text) → faults_at app all ≡ [] → job_at app all ≡ or_usage (job_met (command_at app all))
unfolding job_at
taken app all e = rw e refl

-- words that it refuses
pub refused_by : {T : Type 0} (kind : ErrorKind) (kinds : Kinds) (job : Option T) → IsAmong kind kinds → answer_of kinds job ≡ Err Usage
refused_by kind [] job among = absurd among
refused_by kind (k ∷ ks) job among = refl

refused : (app : App) (all : List Text) (kind : ErrorKind) → IsAmong kind (faults_at app all) → job_at app all ≡ Err Usage
unfolding job_at
refused app all kind among = refused_by kind (faults_at app all) (job_met (command_at app all)) among

-- the definitions in terms of clap's own
pub faults-are : (app : App) (all : List Text) → faults_at app all ≡ fault_of app all
unfolding faults_at
faults-are app all = refl

command-is : (app : App) (all : List Text) → command_at app all ≡ subcommand_of app all
unfolding command_at
command-is app all = refl

-- the words behind the program's name
behind : (words all : List Text) (app : App) (r : Result Job Refusal) → all ≡ codes "pcm" ∷ words → app ≡ pcm_app → job_at app all ≡ r → job_of words ≡ r
unfolding job_of
behind words all app r a p e = sym (ap (λ x. job_at x all) p ∙ ap (job_at pcm_app) a) ∙ e

pub job-of-taken : (words all : List Text) (app : App) (met : Option (Text × List Row)) → all ≡ codes "pcm" ∷ words → app ≡ pcm_app
    → (is_simple_and_free app ≡ true → fault_of app all ≡ []) → (is_simple app ≡ true → met ≡ subcommand_of app all)
    → job_of words ≡ or_usage (job_met met)
job-of-taken words all app met a p faults matches =
    let none : faults_at app all ≡ [] = faults-are app all ∙ faults (ap is_simple_and_free p ∙ free) in
    let found : command_at app all ≡ met = command-is app all ∙ sym (matches (ap is_simple p ∙ simple)) in
    behind words all app _ a p (taken app all none ∙ ap (λ m. or_usage (job_met m)) found)

pub job-of-refused : (words all : List Text) (app : App) (e : Error) → all ≡ codes "pcm" ∷ words → app ≡ pcm_app
    → (is_simple_and_free app ≡ true → (kind_of e ≡ OutOfMemory) ⊎ IsAmong (kind_of e) (fault_of app all))
    → kind_of e ≢ OutOfMemory → job_of words ≡ Err Usage
job-of-refused words all app e a p kinds other =
    let some : IsAmong (kind_of e) (faults_at app all) = elim (kinds (ap is_simple_and_free p ∙ free)) [
      | inl memory ↦ absurd (other memory)
      | inr among ↦ rw (faults-are app all) among
    ] in
    behind words all app _ a p (refused app all (kind_of e) some)

-- an answer that is the job of the words
pub ok-of : {T : Type 0} (r j : Result T Refusal) → j ≡ r → IfOk r (λ job. j ≡ Ok job)
ok-of (Ok job) j e = e
ok-of (Err f) j e = tt

pub err-of : {T : Type 0} (r j : Result T Refusal) → j ≡ r → (P : Refusal → Type 0) → IfErr r (λ e. P e → j ≡ Err e)
err-of (Ok job) j e P = tt
err-of (Err f) j e P = λ _. e

-- words are refused for want of memory, or as a faulty command line
pub told-by : (kind : ErrorKind) → refusal_by kind ≢ NoMemory → kind ≢ OutOfMemory
told-by kind other = λ is. other (ap refusal_by is)

pub usage-by : (kind : ErrorKind) → refusal_by kind ≢ NoMemory → refusal_by kind ≡ Usage
usage-by OutOfMemory other = absurd (other refl)
usage-by _ other = refl
