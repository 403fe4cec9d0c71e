-- Which array line each slot of a bank has, after some slots were given spare lines.
use Rattle.std.specs.Prelude.{◌≡◌, ◌≢◌, ℕ, ◌+◌, ◌^◌, ◌<◌, ◌≤◌, ◌==◌, ◌%◌, if◌then◌else◌, List, [], ◌∷◌, ◌++◌, length, map, take, slice_index}
use Rattle.spare_pool.specs.{declared.Owner.Owner, declared.Owner.TheVariants.{Slot, Free, Retired}}

-- a table: how many slots and spares there are, and the slots that were given a spare, in order
pub record Table : Type 0 where
  pub slots : ℕ
  pub spares : ℕ
  pub replaced : List ℕ

-- the table at the beginning: each slot has the line of its own number
abbrev pub first_table : ℕ → ℕ → Table
first_table slots spares = record { slots = slots; spares = spares; replaced = [] }

-- the line of a slot that had `line`, after these retirements, which give the lines from `next` on
abbrev pub line_from : ℕ → ℕ → List ℕ → ℕ → ℕ
line_from next line [] slot = line
line_from next line (retired ∷ rest) slot = line_from (next + 1) (if retired == slot then next else line) rest slot

-- the line of a slot
abbrev pub line_by : Table → ℕ → ℕ
line_by table slot = line_from table.slots slot table.replaced slot

-- how many spares are used
abbrev pub used_by : Table → ℕ
used_by table = length table.replaced

-- the table after a slot was given the next spare
abbrev pub retired_table : Table → ℕ → Table
retired_table table slot = record { slots = table.slots; spares = table.spares; replaced = table.replaced ++ slot ∷ [] }

-- who has a line
abbrev pub IsOwner : Table → ℕ → Owner → Type 0
IsOwner table line (Slot slot) = (slot < table.slots) × (line_by table slot ≡ line)
IsOwner table line Free = table.slots + used_by table ≤ line
IsOwner table line Retired = (line < table.slots + used_by table) × ((slot : ℕ) → slot < table.slots → line_by table slot ≢ line)

-- the numbers of a table are in range
pub record IsTable (table : Table) : Type 0 where
  pub fits : table.slots + table.spares < 2 ^ 32
  pub within : used_by table ≤ table.spares
  pub known : (spare : ℕ) → spare < used_by table → slice_index table.replaced spare < table.slots

-- the chain of a slot, in which the spares that it was given are looked for
abbrev pub chain_of : ℕ → ℕ
chain_of slot = slot % 256

-- the newest of these retirements whose slot is of a chain, counted from 1, or 0 for none
abbrev pub newest_of : List ℕ → ℕ → ℕ
newest_of replaced chain = line_from 1 0 (map chain_of replaced) chain

-- the table of so many slots, and of the first `used` of these retirements
abbrev pub stored_table : ℕ → List ℕ → ℕ → Table
stored_table slots replaced used = record { slots = slots; spares = length replaced; replaced = take used replaced }

-- the lists hold it: a chain begins with its newest spare, and each spare leads to the one before it
pub record Stores (slots : ℕ) (replaced : List ℕ) (used : ℕ) (heads links : List ℕ) : Type 0 where
  pub table : IsTable (stored_table slots replaced used)
  pub within : used ≤ length replaced
  pub chains : length heads ≡ 256
  pub linked : length links ≡ length replaced
  pub newest : (chain : ℕ) → chain < 256 → slice_index heads chain ≡ newest_of (take used replaced) chain
  pub before : (spare : ℕ) → spare < used → slice_index links spare ≡ newest_of (take spare replaced) (chain_of (slice_index replaced spare))
