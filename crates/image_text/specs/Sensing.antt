-- What the printing of an image does to an array, and how much of the array is printed.
use Rattle.std.specs.{List.flat_map, Prelude.{◌≡◌, ℕ, ◌≤◌, List, Option, false}}
use Rattle.cell_rows.specs.Device.{ArrayState}
use Rattle.pcm_image.specs.Spelling.{cells_bytes}
use Rattle.right_images.specs.{SavesRun.AreRowsTo, Saving.saved_cells, SensedSince.SensedSince}
use Rattle.text_printer.specs.{Printing.Prints, declared.printer.Printer.Printer}

-- the first lines of an array were sensed, so many, each once and in their order, and each has the bytes of a line
pub record SensesRows {n m : ℕ} (count : ℕ) (before after : ArrayState n m) : Type 0 where
  pub since : SensedSince count before after
  pub rows : AreRowsTo count after

-- so were some of the first lines, no more than this
abbrev pub SensesSome : {n m : ℕ} → ℕ → ArrayState n m → ArrayState n m → Type 0
SensesSome most before after = (count : ℕ) × (count ≤ most) × SensesRows count before after

-- the cells of some of an array's first lines are printed, which were sensed for it; of all lines, where there was no fault
pub record PrintsRows {K : Type 0} (written : K → Option (List ℕ)) (faults : K → ℕ) {n m : ℕ} (before after : ArrayState n m) (old new : Printer K) : Type 0 where
  pub count : ℕ
  pub exist : count ≤ before.lines
  pub senses : SensesRows count before after
  pub prints : Prints written faults old new (flat_map cells_bytes (saved_cells before count))
  pub all : new.failed ≡ false → count ≡ before.lines
