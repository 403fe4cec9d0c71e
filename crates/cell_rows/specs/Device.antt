-- What an array of cells is, and what a pulse, a tear and a sense may do to it.
use Rattle.std.specs.Prelude.{ℕ, ◌≡◌, ◌≢◌, ◌+◌, ◌-◌, ◌^◌, ◌<◌, ◌≤◌, ◌⊎◌, min, Bool, true, false, List, [], ◌∷◌, ◌++◌, Option, Some}
use Rattle.cell_rows.specs.{Energy.{no_energy, with_sense}, Rows.cell, declared.array.LineEnergy.LineEnergy, declared.array.Sense.Sense, declared.array.Wear.Wear}
use Rattle.cell_rows.specs.declared.row.Cells.{Cells}
pub use Rattle.cell_rows.specs.Shape.{IsShape}
pub use Rattle.cell_rows.specs.Pulse.{IsPulse}

-- what may be asked of the wear of an array
abbrev pub IsWear : Wear → Type 0
IsWear wear = (1 ≤ wear.lo) × (wear.lo ≤ wear.hi) × (wear.hi ≤ 4000000000) × (wear.misses ≤ 7)

-- one line: what its cells hold, which are stuck, the misses of each since its last change, how many changes each has spent, at most,
-- of those that all cells of its array endure, and how often it was pulsed or torn
pub record LineState (B M : ℕ) : Type 0 where
  pub held : Cells B M
  pub stuck : ℕ → Bool
  pub misses : ℕ → ℕ
  pub spent : ℕ → ℕ
  pub pulses : ℕ

-- what the cells of an array keep to: none sticks before it changed so often, and none misses more often before a change
pub record CellBounds : Type 0 where
  pub endures : ℕ
  pub misses : ℕ

-- a whole array: its lines, how many there are, how often it was torn, the log of its senses, where it is told, the wear that it was
-- last powered up with, of which there is none before, what its cells keep to, and the counts of each line's energy, where they are told
pub record ArrayState (B M : ℕ) : Type 0 where
  pub line : ℕ → LineState B M
  pub lines : ℕ
  pub tears : ℕ
  pub log : Option (List (Sense B M))
  pub wear : Option Wear
  pub bounds : CellBounds
  pub energy : ℕ → Option LineEnergy

-- what a sense of a line shows, as a log keeps it
abbrev pub sense_of : {B M : ℕ} → ℕ → ℕ → LineState B M → Sense B M
sense_of number tick line = record { line = number; tick = tick; cells = line.held; pulses = line.pulses }

-- one more, up to the greatest u64
abbrev pub counted : ℕ → ℕ
counted n = min (n + 1) (2 ^ 64 - 1)

-- a cell holds what it held, as live or as stuck as before, with its misses and the changes that it has spent
pub record IsCellKept {B M : ℕ} (old new : LineState B M) (n : ℕ) : Type 0 where
  pub value : cell new.held n ≡ cell old.held n
  pub stuck : new.stuck n ≡ old.stuck n
  pub misses : new.misses n ≡ old.misses n
  pub spent : new.spent n ≡ old.spent n

-- a live cell sticks only in the last of the changes that the cells of the array endure, or later: so its line was pulsed or torn so often
abbrev pub CellStuck : {B M : ℕ} → CellBounds → LineState B M → LineState B M → ℕ → Type 0
CellStuck bounds old new n = (new.stuck n ≡ true) × (bounds.endures ≤ old.spent n + 1) × (bounds.endures ≤ new.pulses)

-- what a pulse may make of a live masked cell: it takes the wanted value, which is one change, it misses, no more often than cells do, or
-- it sticks
abbrev pub CellPulsed : {B M : ℕ} → CellBounds → Cells B M → LineState B M → LineState B M → ℕ → Type 0
CellPulsed bounds want old new n =
    ((new.stuck n ≡ false) × (cell new.held n ≡ cell want n) × (new.misses n ≡ 0) × (new.spent n ≤ old.spent n + 1))
    ⊎ (((new.stuck n ≡ false) × (cell new.held n ≡ cell old.held n) × (new.misses n ≡ old.misses n + 1) × (new.misses n ≤ bounds.misses)
    × (new.spent n ≤ old.spent n))
    ⊎ CellStuck bounds old new n)

-- what a tear may make of a live masked cell: any value, live with at most as many misses as cells have and one more change, or stuck
abbrev pub CellTorn : {B M : ℕ} → CellBounds → LineState B M → LineState B M → ℕ → Type 0
CellTorn bounds old new n =
    ((new.stuck n ≡ false) × (new.misses n ≤ bounds.misses) × (new.spent n ≤ old.spent n + 1)) ⊎ CellStuck bounds old new n

-- a line after a pulse; no array's cells miss more than seven times before a change
pub record DeviceStep {B M : ℕ} (bounds : CellBounds) (mask want : Cells B M) (old new : LineState B M) : Type 0 where
  pub few : bounds.misses ≤ 7
  pub unmasked : (n : ℕ) → cell mask n ≡ false → IsCellKept old new n
  pub stuck : (n : ℕ) → old.stuck n ≡ true → (new.stuck n ≡ true) × (cell new.held n ≡ cell old.held n)
  pub live : (n : ℕ) → cell mask n ≡ true → old.stuck n ≡ false → CellPulsed bounds want old new n
  pub pulses : new.pulses ≡ counted old.pulses

-- a line after a tear; no array's cells miss more than seven times before a change
pub record TornStep {B M : ℕ} (bounds : CellBounds) (mask : Cells B M) (old new : LineState B M) : Type 0 where
  pub few : bounds.misses ≤ 7
  pub unmasked : (n : ℕ) → cell mask n ≡ false → IsCellKept old new n
  pub stuck : (n : ℕ) → old.stuck n ≡ true → (new.stuck n ≡ true) × (cell new.held n ≡ cell old.held n)
  pub live : (n : ℕ) → cell mask n ≡ true → old.stuck n ≡ false → CellTorn bounds old new n
  pub pulses : new.pulses ≡ counted old.pulses

-- only the line with this number may have changed; the array has as many lines, and its log, its wear and what its cells keep to stand
pub record ChangesOnly {B M : ℕ} (number : ℕ) (old new : ArrayState B M) : Type 0 where
  pub others : (n : ℕ) → n ≢ number → new.line n ≡ old.line n
  pub lines : new.lines ≡ old.lines
  pub log : new.log ≡ old.log
  pub wear : new.wear ≡ old.wear
  pub bounds : new.bounds ≡ old.bounds

-- of the line with this number these counts are told now, and of every other line what was told before
pub record EnergyChanges {B M : ℕ} (number : ℕ) (told : Option LineEnergy) (old new : ArrayState B M) : Type 0 where
  pub here : new.energy number ≡ told
  pub others : (n : ℕ) → n ≢ number → new.energy n ≡ old.energy n

-- a sense changes no line, a log that is told was told before and has gained this sense, and the sense is counted
pub record Senses {B M : ℕ} (sensed : Sense B M) (old new : ArrayState B M) : Type 0 where
  pub line : (n : ℕ) → new.line n ≡ old.line n
  pub lines : new.lines ≡ old.lines
  pub tears : new.tears ≡ old.tears
  pub log : (after : List (Sense B M)) → new.log ≡ Some after → (before : List (Sense B M)) × (old.log ≡ Some before) × (after ≡ before ++ sensed ∷ [])
  pub wear : new.wear ≡ old.wear
  pub bounds : new.bounds ≡ old.bounds
  pub energy : EnergyChanges sensed.line (with_sense (old.energy sensed.line)) old new

-- a line with every cell 0, none stuck, and no miss, no change and no pulse
pub record IsBlank {B M : ℕ} (line : LineState B M) : Type 0 where
  pub held : (n : ℕ) → cell line.held n ≡ false
  pub stuck : (n : ℕ) → line.stuck n ≡ false
  pub misses : (n : ℕ) → line.misses n ≡ 0
  pub spent : (n : ℕ) → line.spent n ≡ 0
  pub pulses : line.pulses ≡ 0

-- an array that was just powered up with this wear; its cells miss at most seven times before a change
pub record IsFresh {B M : ℕ} (lines : ℕ) (given : Wear) (array : ArrayState B M) : Type 0 where
  pub count : array.lines ≡ lines
  pub blank : (l : ℕ) → l < lines → IsBlank (array.line l)
  pub tears : array.tears ≡ 0
  pub log : (senses : List (Sense B M)) → array.log ≡ Some senses → senses ≡ []
  pub wear : array.wear ≡ Some given
  pub few : array.bounds.misses ≤ 7
  pub energy : (l : ℕ) (told : LineEnergy) → l < lines → array.energy l ≡ Some told → told ≡ no_energy
