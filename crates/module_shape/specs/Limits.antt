-- Which sizes a module may have: a small one, on which a whole trace is replayed, and a large one, which serves a stream.
use Rattle.std.specs.{Int.is_power_of_two, Prelude.{◌≡◌, ℕ, ◌*◌, ◌^◌, ◌≤◌, ◌&&◌, nat_le, Bool, if◌then◌else◌, List, [], ◌∷◌, Option, Some, None, Result, Ok, Err}}
use Rattle.feistel_map.specs.Log2.{log2}
use Rattle.start_gap.specs.Rotation.{most_lines}
use Rattle.module_shape.specs.{declared.raw.BadShape.BadShape, declared.raw.Field.Field}
use Rattle.module_shape.specs.{declared.raw.Field.TheVariants.{Banks, Regions, Lines, Total, Spares, Writes, Reads, Psi, ReadTicks, IterTicks}, declared.raw.RawShape.RawShape}
use Rattle.module_shape.specs.declared.raw.SizeLimits.{SizeLimits}

-- whether a number lies between two others
abbrev pub is_between : ℕ → ℕ → ℕ → Bool
is_between least most number = nat_le least number && nat_le number most

-- whether it also is a power of two
abbrev pub is_power_between : ℕ → ℕ → ℕ → Bool
is_power_between least most number = is_power_of_two number && is_between least most number

-- how many lines a module has
abbrev pub total_of : RawShape → ℕ
total_of raw = raw.banks * raw.regions * raw.lines

-- the greatest sizes of a small module, on which a whole trace is replayed: 4 MiB by lines of 64 bytes
abbrev pub small_limits : SizeLimits
small_limits = record { banks = 16; regions = 16; lines = 4096; total = 65536 }

-- and of a large one, which serves a stream: 4 GiB
abbrev pub large_limits : SizeLimits
large_limits = record { banks = 64; regions = 64; lines = most_lines; total = most_lines }

-- the most array lines of a large module: its lines, one more for each of 4,096 regions, and for each of 64 banks 1,024 spares and
-- 1,089 control lines
abbrev pub most_array_lines : ℕ
most_array_lines = 67248192

-- the limits, in the order in which they are looked at, and whether the numbers keep each
abbrev pub limits : SizeLimits → RawShape → List (Field × Bool)
limits most raw =
    (Banks, is_power_between 1 most.banks raw.banks)
    ∷ (Regions, is_power_between 1 most.regions raw.regions)
    ∷ (Lines, is_power_between 4 most.lines raw.lines)
    ∷ (Total, nat_le (total_of raw) most.total)
    ∷ (Spares, nat_le raw.spares 1024)
    ∷ (Writes, is_between 1 256 raw.writes)
    ∷ (Reads, is_between 1 256 raw.reads)
    ∷ (Psi, is_between 1 65535 raw.psi)
    ∷ (ReadTicks, is_between 1 255 raw.read_ticks)
    ∷ (IterTicks, is_between 1 255 raw.iter_ticks)
    ∷ []

-- the first limit that isn't kept
abbrev pub first_broken : List (Field × Bool) → Option Field
first_broken [] = None
first_broken (limit ∷ rest) = if limit.1 then first_broken rest else Some limit.0

-- what is wrong with the sizes of a module, if anything
unfoldable pub shape_fault : SizeLimits → RawShape → Option Field
shape_fault most raw = first_broken (limits most raw)

-- the sizes are accepted where nothing is wrong with them
abbrev pub accepted_by : RawShape → Option Field → Result RawShape BadShape
accepted_by raw None = Ok raw
accepted_by raw (Some field) = Err (record { field = field })

abbrev pub accepted : SizeLimits → RawShape → Result RawShape BadShape
accepted most raw = accepted_by raw (shape_fault most raw)

-- sizes within the limits of a large module, as those of a small one are too; its lines are numbered by whole bits
pub record IsShape (raw : RawShape) : Type 0 where
  pub some_banks : 1 ≤ raw.banks
  pub few_banks : raw.banks ≤ large_limits.banks
  pub some_regions : 1 ≤ raw.regions
  pub few_regions : raw.regions ≤ large_limits.regions
  pub some_lines : 4 ≤ raw.lines
  pub few_lines : raw.lines ≤ large_limits.lines
  pub few_in_all : total_of raw ≤ large_limits.total
  pub whole_bits : 2 ^ log2 (total_of raw) ≡ total_of raw
  pub few_spares : raw.spares ≤ 1024
  pub some_writes : 1 ≤ raw.writes
  pub few_writes : raw.writes ≤ 256
  pub some_reads : 1 ≤ raw.reads
  pub few_reads : raw.reads ≤ 256
  pub some_psi : 1 ≤ raw.psi
  pub few_psi : raw.psi ≤ 65535
  pub some_read_ticks : 1 ≤ raw.read_ticks
  pub few_read_ticks : raw.read_ticks ≤ 255
  pub some_iter_ticks : 1 ≤ raw.iter_ticks
  pub few_iter_ticks : raw.iter_ticks ≤ 255

-- they are also within those of a small module
pub record IsSmall (raw : RawShape) : Type 0 where
  pub few_banks : raw.banks ≤ small_limits.banks
  pub few_regions : raw.regions ≤ small_limits.regions
  pub few_lines : raw.lines ≤ small_limits.lines
  pub few_in_all : total_of raw ≤ small_limits.total

-- whether the sizes of a module are those of a small one
abbrev pub is_small : RawShape → Bool
is_small raw =
    nat_le raw.banks small_limits.banks && (nat_le raw.regions small_limits.regions && (nat_le raw.lines small_limits.lines && nat_le (total_of raw) small_limits.total))
