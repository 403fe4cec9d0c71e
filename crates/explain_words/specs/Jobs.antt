-- What the words of an explanation ask for.
use Rattle.std.specs.{Prelude.{Bool, false, List, codes, Option, Some, None, Result}, Str.bytes_eq}
use Rattle.clap.specs.Words.{App, Row, Text, first_of, matches_of}
use Rattle.command_line.specs.{Jobs.{answer_of, faults_at}, Options.{with_some, line_of, shape_of, seed_of}, declared.job.Refusal.Refusal}
use Rattle.explain_words.specs.{Table.explain_app, declared.job.ExplainJob.ExplainJob}

-- whether more is asked of `worn` rows
abbrev pub strict_of : Option Text → Bool
strict_of None = false
strict_of (Some text) = bytes_eq text (codes "true")

-- the job of these options
unfoldable pub explain_of : List Row → Option ExplainJob
explain_of rows =
    with_some (line_of (first_of (codes "line") rows)) (λ line.
    with_some (shape_of rows) (λ shape.
    with_some (seed_of rows) (λ seed.
    Some (record { check = record { line = line; shape = shape; seed = seed }; strict = strict_of (first_of (codes "strict") rows) }))))

-- the options that `clap` finds in words
unfoldable pub options_at : App → List Text → List Row
options_at app words = matches_of app words

-- the job of such words, where `clap` doesn't refuse them
unfoldable pub job_at : App → List Text → Result ExplainJob Refusal
job_at app words = answer_of (faults_at app words) (explain_of (options_at app words))

-- the job of the words behind the program's name
unfoldable pub explain_job_of : List Text → Result ExplainJob Refusal
explain_job_of words = job_at explain_app words
