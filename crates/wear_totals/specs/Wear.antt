-- How worn an array is.
use Rattle.std.specs.Prelude.{ℕ, zero, suc, ◌+◌, ◌/◌, ◌==◌, if◌then◌else◌}
use Rattle.cell_rows.specs.{Device.ArrayState, Rows.cell, Told.most}
use Rattle.ecp_line.specs.Layout.{active}
use Rattle.energy_report.specs.Sums.{energy_of}
use Rattle.run_text.specs.Pulses.{pulses_in_all}
use Rattle.row_printer.specs.declared.told.ArrayWear.{ArrayWear}

module _ {n m : ℕ} where
  -- the pointers that are active in the first so many lines, by the check cells of each, where a line has e
  unfoldable pub pointers_of_first : ℕ → ArrayState n m → ℕ → ℕ
  pointers_of_first e array zero = 0
  pointers_of_first e array (suc lines) = pointers_of_first e array lines + active n e (cell (array.line lines).held)

  -- the pulses of the line that has most
  abbrev pub most_pulses : ArrayState n m → ℕ
  most_pulses array = most (λ line. (array.line line).pulses) array.lines

-- the pulses of each of so many lines on average, rounded down; 0 of none
abbrev pub mean_of : ℕ → ℕ → ℕ
mean_of pulses lines = if lines == 0 then 0 else pulses / lines

-- how worn an array is whose lines have e pointers
abbrev pub wear_of : {n m : ℕ} → ℕ → ArrayState n m → ArrayWear
wear_of e array = record {
  pulses = pulses_in_all array;
  most = most_pulses array;
  mean = mean_of (pulses_in_all array) array.lines;
  pointers = pointers_of_first e array array.lines;
  energy = energy_of array.energy 0 array.lines;
}
