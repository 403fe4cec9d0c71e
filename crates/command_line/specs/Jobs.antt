-- What the words of the program ask for.
use Rattle.std.specs.{Int.is_power_of_two, Prelude.{◌≡◌, ◌≤◌, true, if◌then◌else◌, List, [], ◌∷◌, codes, Option, Some, None, Result, Ok, Err}, Str.bytes_eq}
use Rattle.clap.specs.Words.{App, Kinds, Row, Text, fault_of, first_of, subcommand_of}
use Rattle.cell_rows.specs.Device.{IsWear}
use Rattle.trace_gen.specs.Generated.{IsMix}
use Rattle.module_shape.specs.Limits.{IsShape, IsSmall}
use Rattle.command_line.specs.{Options.{with_some, number_option, line_of, shape_of, seed_of, wear_of, mix_of, print_of, input_of, from_of, full_turn}, Table.pcm_app}
use Rattle.command_line.specs.{declared.job.CheckJob.CheckJob, declared.job.GenJob.GenJob, declared.job.Input.Input, declared.job.Input.TheVariants.{Source, Drawn}}
use Rattle.command_line.specs.{declared.job.Job.Job, declared.job.Job.TheVariants.{Run, Gen, Map, Moves, Show, Check}, declared.job.MapJob.MapJob, declared.job.MovesJob.MovesJob}
use Rattle.command_line.specs.{declared.job.Refusal.Refusal, declared.job.Refusal.TheVariants.Usage, declared.job.RunJob.RunJob}

-- the job of `run` with these options; those of a generated trace are looked at whatever the input is
unfoldable pub run_of : List Row → Option Job
run_of rows =
    with_some (line_of (first_of (codes "line") rows)) (λ line.
    with_some (shape_of rows) (λ shape.
    with_some (seed_of rows) (λ seed.
    with_some (wear_of seed rows) (λ wear.
    with_some (print_of (first_of (codes "print") rows)) (λ print.
    with_some (mix_of rows) (λ mix.
    with_some (input_of mix (first_of (codes "input") rows)) (λ input.
    Some (Run (record { line = line; shape = shape; seed = seed; wear = wear; print = print; input = input })))))))))

-- the job of `gen`
unfoldable pub gen_of : List Row → Option Job
gen_of rows =
    with_some (line_of (first_of (codes "line") rows)) (λ line.
    with_some (shape_of rows) (λ shape.
    with_some (seed_of rows) (λ seed.
    with_some (mix_of rows) (λ mix.
    Some (Gen (record { line = line; shape = shape; seed = seed; mix = mix }))))))

-- the job of `map`
unfoldable pub map_of : List Row → Option Job
map_of rows =
    with_some (shape_of rows) (λ shape.
    with_some (seed_of rows) (λ seed.
    with_some (from_of rows) (λ from. Some (Map (record { shape = shape; seed = seed; from = from })))))

-- the job of `moves`: a region of 4 to 256 lines, a power of two
unfoldable pub moves_of : List Row → Option Job
moves_of rows =
    with_some (number_option (codes "lines") 64 4 256 rows) (λ lines.
    with_some (from_of rows) (λ from.
    if is_power_of_two lines then Some (Moves (record { lines = lines; from = from })) else None))

-- the job of `check`
unfoldable pub check_of : List Row → Option Job
check_of rows =
    with_some (line_of (first_of (codes "line") rows)) (λ line.
    with_some (shape_of rows) (λ shape.
    with_some (seed_of rows) (λ seed. Some (Check (record { line = line; shape = shape; seed = seed })))))

-- the job of a command with its options
unfoldable pub job_named : Text → List Row → Option Job
job_named name rows =
    if bytes_eq name (codes "run") then run_of rows
    else (if bytes_eq name (codes "gen") then gen_of rows
    else (if bytes_eq name (codes "map") then map_of rows
    else (if bytes_eq name (codes "moves") then moves_of rows
    else (if bytes_eq name (codes "show") then Some Show
    else (if bytes_eq name (codes "check") then check_of rows else None)))))

-- a job, or a faulty command line: where there is none, or where `clap` refuses the words for some cause
abbrev pub or_usage : {T : Type 0} → Option T → Result T Refusal
or_usage None = Err Usage
or_usage (Some job) = Ok job

abbrev pub answer_of : {T : Type 0} → Kinds → Option T → Result T Refusal
answer_of [] job = or_usage job
answer_of (kind ∷ kinds) job = Err Usage

-- the job of the command that was found, if one was
abbrev pub job_met : Option (Text × List Row) → Option Job
job_met met = with_some met (λ command. job_named command.0 command.1)

-- why `clap` refuses words of which the first is the program's name, and the command and the options that it finds in them
unfoldable pub faults_at : App → List Text → Kinds
faults_at app words = fault_of app words

unfoldable pub command_at : App → List Text → Option (Text × List Row)
command_at app words = subcommand_of app words

-- the job of such words
unfoldable pub job_at : App → List Text → Result Job Refusal
job_at app words = answer_of (faults_at app words) (job_met (command_at app words))

-- the job of the words behind the program's name
unfoldable pub job_of : List Text → Result Job Refusal
job_of words = job_at pcm_app (codes "pcm" ∷ words)

-- the numbers of the rows that a run draws are in range
abbrev pub IsInput : Input → Type 0
IsInput Source = Unit {0}
IsInput (Drawn mix) = IsMix mix

-- a region of a power of two of lines, and a number of gap moves, that can be told
pub record IsMoves (job : MovesJob) : Type 0 where
  pub some_lines : 4 ≤ job.lines
  pub few_lines : job.lines ≤ 256
  pub power_of_two : is_power_of_two job.lines ≡ true
  pub few_moves : job.from ≤ full_turn

-- the numbers of each job are in range
pub record IsRun (job : RunJob) : Type 0 where
  pub shape : IsShape job.shape
  pub small : IsSmall job.shape
  pub wear : IsWear job.wear
  pub one_seed : job.wear.seed ≡ job.seed
  pub input : IsInput job.input

pub record IsGen (job : GenJob) : Type 0 where
  pub shape : IsShape job.shape
  pub small : IsSmall job.shape
  pub mix : IsMix job.mix

pub record IsMap (job : MapJob) : Type 0 where
  pub shape : IsShape job.shape
  pub small : IsSmall job.shape
  pub few_moves : job.from ≤ full_turn

abbrev pub IsCheck : CheckJob → Type 0
IsCheck job = IsShape job.shape

abbrev pub IsJob : Job → Type 0
IsJob (Run job) = IsRun job
IsJob (Gen job) = IsGen job
IsJob (Map job) = IsMap job
IsJob (Moves job) = IsMoves job
IsJob Show = Unit {0}
IsJob (Check job) = IsCheck job
