-- What the options of a module stand for.
use Rattle.std.specs.Prelude.{◌≡◌, ◌⊎◌, ℕ, ◌==◌, ◌||◌, nat_lt, Bool, true, false, if◌then◌else◌, Option, Some, None, Result, Ok, Err, option_map}
use Rattle.cell_rows.specs.{Device.IsWear, declared.array.Wear.Wear}
use Rattle.bank_shape.specs.{declared.Home.Home, declared.Home.TheVariants.{Guarded, Array}, declared.pace.Policy.Policy, declared.pace.Policy.TheVariants.{Pause, Plain, Cancel}}
use Rattle.module_shape.specs.{Limits.{IsShape, large_limits, shape_fault}, declared.raw.Field.Field, declared.raw.RawShape.RawShape}
use Rattle.module_shape.specs.declared.raw.Field.TheVariants as size
use Rattle.pcm_cells.specs.Seeded.{seeded_state}
use Rattle.pcm_c.specs.{Answers.status_number, Calls.Begins, declared.held.Held.Held, declared.held.Held.TheVariants.{Narrow, Wide}, declared.options.Chosen.Chosen}
use Rattle.pcm_c.specs.{declared.options.BadOption.BadOption, declared.status.Status.Status}
use Rattle.pcm_c.specs.declared.options.BadOption.TheVariants as bad
use Rattle.pcm_c.specs.declared.status.Status.TheVariants as status
use Rattle.pcm_c.specs.declared.options.ModuleOptions.{ModuleOptions}

-- the policy and the home of the registers that have these numbers
abbrev pub policy_of : ℕ → Option Policy
policy_of number = if number == 0 then Some Pause else if number == 1 then Some Plain else if number == 2 then Some Cancel else None

abbrev pub home_of : ℕ → Option Home
home_of number = if number == 0 then Some Guarded else if number == 1 then Some Array else None

-- whether lines of so many bytes are the long ones
abbrev pub width_of : ℕ → Option Bool
width_of line = if line == 64 then Some false else if line == 128 then Some true else None

-- the number of an option in c/pcm.h
abbrev pub option_number : BadOption → ℕ
option_number bad.Size = 1
option_number bad.Banks = 2
option_number bad.Regions = 3
option_number bad.Lines = 4
option_number bad.Total = 5
option_number bad.Line = 6
option_number bad.Spares = 7
option_number bad.WriteQueue = 8
option_number bad.ReadQueue = 9
option_number bad.Psi = 10
option_number bad.ReadTicks = 11
option_number bad.IterTicks = 12
option_number bad.Policy = 13
option_number bad.Registers = 14
option_number bad.Misses = 15
option_number bad.Lo = 16
option_number bad.Hi = 17

-- 0 where none is out of range
abbrev pub number_of_bad : Option BadOption → ℕ
number_of_bad None = 0
number_of_bad (Some option) = option_number option

-- the option that sets a size
abbrev pub option_of : Field → BadOption
option_of size.Banks = bad.Banks
option_of size.Regions = bad.Regions
option_of size.Lines = bad.Lines
option_of size.Total = bad.Total
option_of size.Spares = bad.Spares
option_of size.Writes = bad.WriteQueue
option_of size.Reads = bad.ReadQueue
option_of size.Psi = bad.Psi
option_of size.ReadTicks = bad.ReadTicks
option_of size.IterTicks = bad.IterTicks

-- the sizes that options ask for, where their numbers mean this policy and this home
abbrev pub raw_of : ModuleOptions → Policy → Home → RawShape
raw_of o policy home = record {
  banks = o.banks;
  regions = o.regions;
  lines = o.lines;
  spares = o.spares;
  writes = o.write_queue;
  reads = o.read_queue;
  psi = o.psi;
  read_ticks = o.read_ticks;
  iter_ticks = o.iter_ticks;
  policy = policy;
  home = home;
}

abbrev pub wear_of : ModuleOptions → Wear
wear_of o = record { seed = o.seed; lo = o.lo; hi = o.hi; misses = o.misses }

-- which of the options is out of range that say how cells wear
abbrev pub bad_wear : ModuleOptions → Option BadOption
bad_wear o =
    if nat_lt 7 o.misses then Some bad.Misses
    else if nat_lt o.lo 1 then Some bad.Lo
    else if nat_lt o.hi o.lo || nat_lt 4000000000 o.hi then Some bad.Hi
    else None

-- and of those that set sizes the first, in the order of their limits
abbrev pub bad_size : RawShape → Option BadOption
bad_size raw = option_map option_of (shape_fault large_limits raw)

-- the first of two, if there is one
abbrev pub first_bad : Option BadOption → Option BadOption → Option BadOption
first_bad None other = other
first_bad (Some option) other = Some option

-- the first one by what numbers mean, if they mean something: the policy, the registers, the bytes of a line; then how cells wear, then sizes
abbrev pub bad_by : Option Policy → Option Home → Option Bool → ModuleOptions → Option BadOption
bad_by None home width o = Some bad.Policy
bad_by (Some policy) None width o = Some bad.Registers
bad_by (Some policy) (Some home) None o = Some bad.Line
bad_by (Some policy) (Some home) (Some is_wide) o = first_bad (bad_wear o) (bad_size (raw_of o policy home))

-- the first option that is out of range: before all others how many bytes they are
abbrev pub bad_option : ModuleOptions → Option BadOption
bad_option o = if o.size == 72 then bad_by (policy_of o.policy) (home_of o.registers) (width_of o.line) o else Some bad.Size

-- which option a result refuses
abbrev pub bad_in : {T : Type 0} → Result T BadOption → Option BadOption
bad_in (Ok it) = None
bad_in (Err option) = Some option

-- options of which a module can be made: these are its policy and its home
pub record AreRight (o : ModuleOptions) : Type 0 where
  pub policy : Policy
  pub home : Home
  pub is_policy : policy_of o.policy ≡ Some policy
  pub is_home : home_of o.registers ≡ Some home
  pub shape : IsShape (raw_of o policy home)
  pub wear : IsWear (wear_of o)
  pub is_wide : Bool
  pub line : o.line ≡ (if is_wide then 128 else 64)

-- what was chosen is what these options ask for
pub record IsChosen (o : ModuleOptions) (chosen : Chosen) : Type 0 where
  pub right : AreRight o
  pub shape : chosen.shape ≡ raw_of o right.policy right.home
  pub wear : chosen.wear ≡ wear_of o
  pub wide : chosen.is_wide ≡ right.is_wide

-- a module with short lines or long ones, of these sizes, whose cells wear so, begins
abbrev pub BeginsWith : Bool → RawShape → Wear → Held → Type 0
BeginsWith is_wide raw wear (Narrow new) = (is_wide ≡ false) × Begins seeded_state raw wear new
BeginsWith is_wide raw wear (Wide new) = (is_wide ≡ true) × Begins seeded_state raw wear new

-- the module that was opened by these options
abbrev pub OpensAt : ModuleOptions → Option Held → Type 0
OpensAt o (Some new) = (right : AreRight o) × BeginsWith right.is_wide (raw_of o right.policy right.home) (wear_of o) new
OpensAt o None = ⊥

-- why a module that could be closed isn't opened, by the option that is out of range: else there is no memory
abbrev pub open_refusal : Option BadOption → Status
open_refusal None = status.NoMemory
open_refusal (Some option) = status.Options

-- the number that a call to open is answered by: the handle holds a module already; an option is out of range; or else it is done, or there is no memory
abbrev pub OpenTold : Option BadOption → (number : ℕ) → Type 0
OpenTold None number = (number ≡ status_number status.Done) ⊎ (number ≡ status_number status.NoMemory)
OpenTold (Some option) number = number ≡ status_number status.Options

abbrev pub OpenToldAt : ModuleOptions → Option Held → (number : ℕ) → Type 0
OpenToldAt o (Some held) number = number ≡ status_number status.Open
OpenToldAt o None number = OpenTold (bad_option o) number
