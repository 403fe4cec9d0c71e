-- The counts of an array's energy, line by line.
use Rattle.std.specs.Prelude.{ℕ, List, [], Option, None, Some}
use Rattle.cell_rows.specs.declared.array.LineEnergy.{LineEnergy}
use Rattle.line_pages.specs.{Counting.energy_at, declared.page_table.PageTable.PageTable}

-- the kept counts of an array, of which there are none before it is powered up
abbrev pub energies_of : Option (PageTable LineEnergy) → List (Option LineEnergy)
energies_of None = []
energies_of (Some energies) = energies

-- what an array tells of the energy of a line: nothing, where it keeps no counts
abbrev pub energy_told : Option (List (Option LineEnergy)) → ℕ → Option LineEnergy
energy_told None line = None
energy_told (Some energies) line = Some (energy_at energies line)
