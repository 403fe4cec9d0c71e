-- The totals of an array, and what a change of one line makes of them.
use Rattle.std.specs.Prelude.{◌≡◌, ℕ, ◌+◌, ◌-◌, ◌<◌, ◌^◌, max, Bool, true, false, Option, None, Some}
use Rattle.cell_rows.specs.{Device.{ArrayState, IsBlank}, Energy.counted_on, Rows.cell, declared.array.LineEnergy.LineEnergy}
use Rattle.ecp_line.specs.Layout.{IsLayout, active}
use Rattle.energy_report.specs.Sums.{energy_of}
use Rattle.run_text.specs.Pulses.{pulses_in_all}
use Rattle.row_printer.specs.declared.told.ArrayWear.{ArrayWear}
use Rattle.wear_totals.specs.{Wear.{mean_of, most_pulses, pointers_of_first}, declared.line.LineTotals.LineTotals, declared.totals.Totals.Totals}

-- what the lines of an array have together, of which each has e pointers
abbrev pub totals_of : {n m : ℕ} → ℕ → ArrayState n m → Totals
totals_of e array = record {
  pulses = pulses_in_all array;
  most = most_pulses array;
  pointers = pointers_of_first e array array.lines;
  energy = energy_of array.energy 0 array.lines;
}

-- the pointers that are active by the check cells of a line, where they are asked for
abbrev pub pointers_at : {n m : ℕ} → ℕ → Bool → ArrayState n m → ℕ → ℕ
pointers_at e false array line = 0
pointers_at {n} e true array line = active n e (cell (array.line line).held)

-- what one of its lines has; its pointers only where its check cells are touched
abbrev pub line_totals : {n m : ℕ} → ℕ → Bool → ArrayState n m → ℕ → LineTotals
line_totals e touched array line = record {
  pulses = (array.line line).pulses;
  pointers = pointers_at e touched array line;
  energy = array.energy line;
}

-- a sum, up to the greatest u64, one part of which has grown
abbrev pub grown : ℕ → ℕ → ℕ → ℕ
grown sum before behind = counted_on sum (behind - before)

-- the sums of the counts of energy where those of one line have grown; nothing where some aren't told
abbrev pub energy_grown : Option LineEnergy → Option LineEnergy → Option LineEnergy → Option LineEnergy
energy_grown None before behind = None
energy_grown (Some sum) None behind = None
energy_grown (Some sum) (Some before) None = None
energy_grown (Some sum) (Some before) (Some behind) = Some (record {
  set = grown sum.set before.set behind.set;
  reset = grown sum.reset before.reset behind.reset;
  senses = grown sum.senses before.senses behind.senses;
})

-- the totals behind a pulse or a tear of a line that had this before and has that behind it
abbrev pub renewed : Totals → LineTotals → LineTotals → Totals
renewed totals before behind = record {
  pulses = grown totals.pulses before.pulses behind.pulses;
  most = max totals.most behind.pulses;
  pointers = totals.pointers - before.pointers + behind.pointers;
  energy = energy_grown totals.energy before.energy behind.energy;
}

-- how worn an array of so many lines is, by its totals
abbrev pub wear_by : Totals → ℕ → ArrayWear
wear_by totals lines = record {
  pulses = totals.pulses;
  most = totals.most;
  mean = mean_of totals.pulses lines;
  pointers = totals.pointers;
  energy = totals.energy;
}

-- these are the totals of an array whose lines have e pointers
pub record IsTotalled {n m : ℕ} (e : ℕ) (array : ArrayState n m) (totals : Totals) : Type 0 where
  pub layout : IsLayout n m e
  pub few : array.lines < 2 ^ 32
  pub is : totals ≡ totals_of e array

-- each line of an array is as it is powered up
abbrev pub AreBlank : {n m : ℕ} → ArrayState n m → Type 0
AreBlank array = (line : ℕ) → line < array.lines → IsBlank (array.line line)
