-- How much of the image of a large module is printed.
use Rattle.std.specs.Prelude.{◌≡◌, ℕ, ◌≤◌, ◌++◌, nat_le, if◌then◌else◌, List, [], length, Option, false}
use Rattle.pcm_io.specs.Giving.{AppendsPrefix}
use Rattle.cell_rows.specs.Device.{ArrayState}
use Rattle.pcm_image.specs.{Saved.Saved, Spelling.u32}
use Rattle.large_image.specs.Spelling.{end_mark, large_front, rows_bytes}
use Rattle.right_images.specs.{SavesRun.AreRowsTo, Saving.{first_rows, saved_cells}}
use Rattle.image_text.specs.Sensing.{SensesRows}
use Rattle.text_printer.specs.{Printing.Prints, declared.printer.Printer.Printer}

-- what stands behind the first array lines, so many: the end mark where there are no more, and else nothing of its own
abbrev pub mark_behind : ℕ → ℕ → List ℕ
mark_behind lines count = if nat_le lines count then u32 end_mark else []

-- the image of a saved module to the end of its first array lines, so many; where these are all, with the end mark
abbrev pub large_to : {n m : ℕ} → ℕ → Saved n m → List ℕ
large_to count saved = large_front (first_rows count saved) ++ mark_behind (length saved.cells) count

-- some of an array's first lines are printed, as a large module's are spelled, which were sensed for it, and the end mark behind them all; all
-- lines, where there was no fault
pub record PrintsLargeRows {K : Type 0} (written : K → Option (List ℕ)) (faults : K → ℕ) {n m : ℕ} (before after : ArrayState n m) (old new : Printer K) : Type 0 where
  pub count : ℕ
  pub exist : count ≤ before.lines
  pub senses : SensesRows count before after
  pub prints : Prints written faults old new (rows_bytes 0 (saved_cells before count) ++ mark_behind before.lines count)
  pub all : new.failed ≡ false → count ≡ before.lines

-- of the image of a saved large module first bytes were written, no more than to the end of some of the array's first
-- rows, each of which has the bytes of a line; and of the end mark only behind them all
pub record WritesLargeRows {n m : ℕ} (array : ArrayState n m) (saved : Saved n m) (was now : Option (List ℕ)) : Type 0 where
  pub count : ℕ
  pub rows : AreRowsTo count array
  pub part : AppendsPrefix was now (large_to count saved)
