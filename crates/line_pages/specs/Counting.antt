-- What is done to a line, as its energy is counted.
use Rattle.std.specs.Prelude.{ℕ, List, Option, None, Some, slice_index_or}
use Rattle.cell_rows.specs.{Energy.{counted_on, no_energy}, declared.array.LineEnergy.LineEnergy}
use Rattle.line_pages.specs.{declared.work.LineWork.LineWork, declared.work.LineWork.TheVariants.{Drives, Sense}}

-- the counts of a line, after this was done to it
abbrev pub worked : LineWork → LineEnergy → LineEnergy
worked (Drives set reset) energy = record energy { set = counted_on energy.set set; reset = counted_on energy.reset reset }
worked Sense energy = record energy { senses = counted_on energy.senses 1 }

-- the counts of a line; one that was never pulsed, torn or sensed has none kept
abbrev pub energy_or_none : Option LineEnergy → LineEnergy
energy_or_none None = no_energy
energy_or_none (Some energy) = energy

-- the counts of the line with this number
abbrev pub energy_at : List (Option LineEnergy) → ℕ → LineEnergy
energy_at energies line = energy_or_none (slice_index_or energies line None)
