-- The counts of energy of several lines together.
use Rattle.std.specs.Prelude.{ℕ, zero, suc, ◌+◌, Option, None, Some}
use Rattle.cell_rows.specs.{Energy.{counted_on, no_energy}, declared.array.LineEnergy.LineEnergy}

-- two counts together, each number up to the greatest u64; nothing where one of them isn't told
abbrev pub together : Option LineEnergy → Option LineEnergy → Option LineEnergy
together None more = None
together (Some sum) None = None
together (Some sum) (Some more) = Some (record {
  set = counted_on sum.set more.set;
  reset = counted_on sum.reset more.reset;
  senses = counted_on sum.senses more.senses;
})

-- the counts of so many lines together, from a line on
unfoldable pub energy_of : (ℕ → Option LineEnergy) → ℕ → ℕ → Option LineEnergy
energy_of energy from zero = Some no_energy
energy_of energy from (suc lines) = together (energy_of energy from lines) (energy (from + lines))
