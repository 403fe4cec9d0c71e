-- What the options of a command mean.
use Rattle.std.specs.{Prelude.{◌≡◌, ◌≤◌, ℕ, nat_le, if◌then◌else◌, List, codes, Option, Some, None}, Str.bytes_eq}
use Rattle.clap.specs.Words.{Row, Text, first_of}
use Rattle.trace_reader.specs.Number.{number_of}
use Rattle.trace_gen.specs.{Generated.whole_lines, declared.mix.Mix.Mix}
use Rattle.cell_rows.specs.declared.array.Wear.{Wear}
use Rattle.bank_shape.specs.{declared.Home.Home, declared.pace.Policy.Policy}
use Rattle.bank_shape.specs.declared.Home.TheVariants as home
use Rattle.bank_shape.specs.declared.pace.Policy.TheVariants as policy
use Rattle.module_shape.specs.{Limits.{large_limits, shape_fault, small_limits}, declared.raw.Field.Field, declared.raw.RawShape.RawShape}
use Rattle.command_line.specs.{declared.job.Input.Input, declared.job.Input.TheVariants.{Source, Drawn}, declared.job.LineSize.LineSize}
use Rattle.command_line.specs.{declared.job.LineSize.TheVariants.{Bytes64, Bytes128}, declared.job.Print.Print}
use Rattle.command_line.specs.declared.job.Print.TheVariants as print

-- the next step with a value, or none where there is none
abbrev pub with_some : {T U : Type 0} → Option T → (T → Option U) → Option U
with_some None next = None
with_some (Some x) next = next x

-- a number of 1 to 20 digits within a range, or the default where no text is given
unfoldable pub number_or : ℕ → ℕ → ℕ → Option Text → Option ℕ
number_or default least most None = Some default
number_or default least most (Some text) =
    with_some (number_of 20 most text) (λ number. if nat_le least number then Some number else None)

-- an option with a number: its name, its default and its range
abbrev pub number_option : Text → ℕ → ℕ → ℕ → List Row → Option ℕ
number_option name default least most rows = number_or default least most (first_of name rows)

-- a size of a module: the limits of a module say which are in range
abbrev pub size_option : Text → ℕ → List Row → Option ℕ
size_option name default rows = number_option name default 0 4294967295 rows

-- which of two words a text is, the first one where no text is given
abbrev pub one_of_two : {T : Type 0} → Text → T → Text → T → Option Text → Option T
one_of_two first x second y None = Some x
one_of_two first x second y (Some text) =
    if bytes_eq text first then Some x else (if bytes_eq text second then Some y else None)

-- when a line write gives way
abbrev pub policy_of : Option Text → Option Policy
policy_of None = Some policy.Pause
policy_of (Some text) =
    if bytes_eq text (codes "pause") then Some policy.Pause
    else (if bytes_eq text (codes "plain") then Some policy.Plain
    else (if bytes_eq text (codes "cancel") then Some policy.Cancel else None))

-- where registers are kept, how long a line is, and where a run takes its trace from
abbrev pub home_of : Option Text → Option Home
home_of text = one_of_two (codes "guarded") home.Guarded (codes "array") home.Array text

abbrev pub line_of : Option Text → Option LineSize
line_of text = one_of_two (codes "64") Bytes64 (codes "128") Bytes128 text

abbrev pub input_of : Mix → Option Text → Option Input
input_of mix text = one_of_two (codes "source") Source (codes "drawn") (Drawn mix) text

-- what a run writes
abbrev pub print_of : Option Text → Option Print
print_of None = Some print.Results
print_of (Some text) =
    if bytes_eq text (codes "results") then Some print.Results
    else (if bytes_eq text (codes "summary") then Some print.Summary
    else (if bytes_eq text (codes "wear") then Some print.Wear
    else (if bytes_eq text (codes "image") then Some print.Image else None)))

-- the sizes of the module that the options ask for
unfoldable pub raw_of : List Row → Option RawShape
raw_of rows =
    with_some (size_option (codes "banks") 4 rows) (λ banks.
    with_some (size_option (codes "regions") 2 rows) (λ regions.
    with_some (size_option (codes "lines") 64 rows) (λ lines.
    with_some (size_option (codes "spares") 8 rows) (λ spares.
    with_some (size_option (codes "write-queue") 32 rows) (λ writes.
    with_some (size_option (codes "read-queue") 32 rows) (λ reads.
    with_some (size_option (codes "psi") 100 rows) (λ psi.
    with_some (size_option (codes "read-ticks") 5 rows) (λ read_ticks.
    with_some (size_option (codes "iter-ticks") 10 rows) (λ iter_ticks.
    with_some (policy_of (first_of (codes "policy") rows)) (λ policy.
    with_some (home_of (first_of (codes "registers") rows)) (λ home.
    Some (record {
      banks = banks;
      regions = regions;
      lines = lines;
      spares = spares;
      writes = writes;
      reads = reads;
      psi = psi;
      read_ticks = read_ticks;
      iter_ticks = iter_ticks;
      policy = policy;
      home = home;
    }))))))))))))

-- sizes with which something is wrong are none
abbrev pub faultless : RawShape → Option Field → Option RawShape
faultless raw None = Some raw
faultless raw (Some field) = None

-- the sizes of a small module, if it can have them
unfoldable pub shape_of : List Row → Option RawShape
shape_of rows = with_some (raw_of rows) (λ raw. faultless raw (shape_fault small_limits raw))

-- and those of a large one
unfoldable pub large_shape_of : List Row → Option RawShape
large_shape_of rows = with_some (raw_of rows) (λ raw. faultless raw (shape_fault large_limits raw))

-- the seed
abbrev pub seed_of : List Row → Option ℕ
seed_of rows = number_option (codes "seed") 0 0 18446744073709551615 rows

-- how the cells wear out: the least number of changes isn't above the greatest
unfoldable pub wear_of : ℕ → List Row → Option Wear
wear_of seed rows =
    with_some (number_option (codes "lo") 100000000 1 4000000000 rows) (λ lo.
    with_some (number_option (codes "hi") 100000000 1 4000000000 rows) (λ hi.
    with_some (number_option (codes "misses") 0 0 7 rows) (λ misses.
    if nat_le lo hi then Some (record { seed = seed; lo = lo; hi = hi; misses = misses }) else None)))

-- what the rows of a generated trace are, of at most so many rows and hot lines: no more cuts than rows
unfoldable pub mix_within : ℕ → ℕ → List Row → Option Mix
mix_within most most_hot rows =
    with_some (number_option (codes "rows") 1000 1 most rows) (λ count.
    with_some (number_option (codes "write-percent") 50 0 100 rows) (λ percent.
    with_some (number_option (codes "cuts") 0 0 most rows) (λ cuts.
    with_some (number_option (codes "step") 10 0 65535 rows) (λ step.
    with_some (number_option (codes "hot") 0 0 most_hot rows) (λ hot.
    if nat_le cuts count
    then Some (record { rows = count; write_percent = percent; cuts = cuts; step = step; hot = hot })
    else None)))))

-- the rows that `run` draws and `gen` writes
abbrev pub mix_of : List Row → Option Mix
mix_of rows = mix_within 400000 whole_lines rows

-- the numbers of a mix of at most so many rows and hot lines are in range
pub record IsMixWithin (most most_hot : ℕ) (mix : Mix) : Type 0 where
  pub some_rows : 1 ≤ mix.rows
  pub few_rows : mix.rows ≤ most
  pub percent : mix.write_percent ≤ 100
  pub few_cuts : mix.cuts ≤ mix.rows
  pub small_step : mix.step ≤ 65535
  pub few_hot : mix.hot ≤ most_hot

-- an input that is drawn has this mix
abbrev pub HasMix : Mix → Input → Type 0
HasMix mix Source = Unit {0}
HasMix mix (Drawn own) = own ≡ mix

-- the most gap moves that a report may begin at: a full turn of 4,096 lines, which brings each line to where it was
abbrev pub full_turn : ℕ
full_turn = 16781312

-- how many gap moves were made
abbrev pub from_of : List Row → Option ℕ
from_of rows = number_option (codes "from") 0 0 full_turn rows
