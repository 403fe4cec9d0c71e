-- How the report comes about, row by row.
use Rattle.std.proofs.Common.{◌≡◌, ℕ, zero, suc, ◌+◌, ◌*◌, ◌≤◌, inl, inr, [], ◌++◌, Option, Some, refl, ap, arith}
use Rattle.std.{specs.Prelude.decimal, proofs.lemmas.Bool.cases_eq}
use Rattle.cell_rows.specs.{Energy.no_energy, declared.array.LineEnergy.LineEnergy}
use Rattle.energy_report.specs.{EnergyText.{bank_rows, energy_row}, Sums.{energy_of, together}}

-- the sum of no line, and of one more
pub sum-none : (energy : ℕ → Option LineEnergy) (from : ℕ) → energy_of energy from 0 ≡ Some no_energy
unfolding energy_of
sum-none energy from = refl

pub sum-more : (energy : ℕ → Option LineEnergy) (from lines : ℕ) → energy_of energy from (lines + 1) ≡ together (energy_of energy from lines) (energy (from + lines))
unfolding energy_of
sum-more energy from lines = let next : lines + 1 ≡ suc lines = omega arith in ap (energy_of energy from) next

-- the rows of no bank, and of one more
pub rows-none : (energy : ℕ → Option LineEnergy) (lines : ℕ) → [] ≡ bank_rows energy lines 0
unfolding bank_rows
rows-none energy lines = refl

pub rows-more : (energy : ℕ → Option LineEnergy) (lines bank : ℕ)
    → bank_rows energy lines bank ++ energy_row (decimal bank) (energy_of energy (bank * lines) lines) ≡ bank_rows energy lines (bank + 1)
unfolding bank_rows
rows-more energy lines bank = let next : suc bank ≡ bank + 1 = omega arith in ap (bank_rows energy lines) next

-- the lines of one bank are lines of the array
pub bank-within : (bank banks lines : ℕ) → bank + 1 ≤ banks → bank * lines + lines ≤ banks * lines
bank-within bank zero lines low = omega (arith, low)
bank-within bank (suc k) lines low =
    elim (cases_eq bank k) as (λ _. bank * lines + lines ≤ suc k * lines) [
      | inl same ↦ rw same (omega arith)
      | inr apart ↦ let before = bank-within bank k lines (omega (arith, low, apart)) in omega (arith, before)
    ]
