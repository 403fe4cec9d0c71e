-- What the energy of an array is reckoned from: how many cells its pulses drive, and how often its lines are sensed.
use Rattle.std.specs.Prelude.{ℕ, ◌+◌, ◌-◌, ◌*◌, ◌^◌, min, ◌&&◌, not, Option, Some, None}
use Rattle.cell_rows.specs.{Rows.{cell, members}, declared.array.LineEnergy.LineEnergy, declared.row.Cells.Cells}

-- so many more, up to the greatest u64
abbrev pub counted_on : ℕ → ℕ → ℕ
counted_on n more = min (n + more) (2 ^ 64 - 1)

-- how many cells a pulse drives to 1: those of its mask that are wanted to be 1, live or stuck
abbrev pub set_cells : {B M : ℕ} → Cells B M → Cells B M → ℕ
set_cells {B} {M} mask want = members (λ n. cell mask n && cell want n) (8 * (B + M))

-- how many cells a pulse drives to 0: those of its mask that are wanted to be 0, live or stuck
abbrev pub reset_cells : {B M : ℕ} → Cells B M → Cells B M → ℕ
reset_cells {B} {M} mask want = members (λ n. cell mask n && not (cell want n)) (8 * (B + M))

-- the counts of a line that was never pulsed, torn or sensed
abbrev pub no_energy : LineEnergy
no_energy = record { set = 0; reset = 0; senses = 0 }

-- what is told of a line after a pulse; a tear drives the same cells before the power goes
abbrev pub with_pulse : {B M : ℕ} → Cells B M → Cells B M → Option LineEnergy → Option LineEnergy
with_pulse mask want None = None
with_pulse mask want (Some energy) =
    Some (record energy { set = counted_on energy.set (set_cells mask want); reset = counted_on energy.reset (reset_cells mask want) })

-- what is told of a line after a sense
abbrev pub with_sense : Option LineEnergy → Option LineEnergy
with_sense None = None
with_sense (Some energy) = Some (record energy { senses = counted_on energy.senses 1 })
