-- What the words of a stream ask for.
use Rattle.std.specs.Prelude.{◌≡◌, List, codes, Option, Some, Result}
use Rattle.clap.specs.Words.{App, Row, Text, first_of, matches_of}
use Rattle.cell_rows.specs.Device.{IsWear}
use Rattle.trace_gen.specs.Generated.{IsLongMix}
use Rattle.module_shape.specs.Limits.{IsShape}
use Rattle.command_line.specs.{Jobs.{answer_of, faults_at}, Options.{with_some, line_of, large_shape_of, seed_of, wear_of, input_of}, declared.job.Input.Input}
use Rattle.command_line.specs.{declared.job.Input.TheVariants.{Source, Drawn}, declared.job.Refusal.Refusal}
use Rattle.stream_words.specs.{Options.{IsPrint, end_of, banks_of, long_mix_of, print_of, until_of}, Table.stream_app, declared.job.StreamJob.StreamJob}

-- the job of these options; those of a generated trace are looked at whatever the input is
unfoldable pub stream_of : List Row → Option StreamJob
stream_of rows =
    with_some (line_of (first_of (codes "line") rows)) (λ line.
    with_some (large_shape_of rows) (λ shape.
    with_some (seed_of rows) (λ seed.
    with_some (wear_of seed rows) (λ wear.
    with_some (print_of rows) (λ print.
    with_some (long_mix_of rows) (λ mix.
    with_some (input_of mix (first_of (codes "input") rows)) (λ input.
    with_some (end_of (first_of (codes "end") rows)) (λ end.
    with_some (until_of (first_of (codes "until") rows)) (λ until.
    with_some (banks_of input end shape.banks rows) (λ banks.
    Some (record { line = line; shape = shape; seed = seed; wear = wear; print = print; input = input; end = end; until = until; banks = banks })))))))))))

-- the options that `clap` finds in words
unfoldable pub options_at : App → List Text → List Row
options_at app words = matches_of app words

-- the job of such words, where `clap` doesn't refuse them
unfoldable pub job_at : App → List Text → Result StreamJob Refusal
job_at app words = answer_of (faults_at app words) (stream_of (options_at app words))

-- the job of the words behind the program's name
unfoldable pub stream_job_of : List Text → Result StreamJob Refusal
stream_job_of words = job_at stream_app words

-- the numbers of the rows that a stream draws are in range
abbrev pub IsLongInput : Input → Type 0
IsLongInput Source = Unit {0}
IsLongInput (Drawn mix) = IsLongMix mix

-- the numbers of a job are in range
pub record IsStreamJob (job : StreamJob) : Type 0 where
  pub shape : IsShape job.shape
  pub wear : IsWear job.wear
  pub one_seed : job.wear.seed ≡ job.seed
  pub print : IsPrint job.print
  pub input : IsLongInput job.input
