-- What an image is printed of, and how much of it where writing fails.
use Rattle.std.specs.Prelude.{ℕ, ◌<◌, ◌≤◌, List, Option}
use Rattle.pcm_io.specs.Giving.{AppendsPrefix}
use Rattle.cell_rows.specs.Device.{ArrayState}
use Rattle.module_shape.specs.Limits.{IsSmall, small_limits}
use Rattle.power_recovery.specs.Kept.{KeptState}
use Rattle.pcm_image.specs.{Saved.Saved, Spelling.image_bytes}
use Rattle.right_images.specs.{SavesRun.AreRowsTo, Saving.first_rows}
use Rattle.pcm_module.specs.State.{ModuleState, bank_at}

-- what a bank of a module keeps
abbrev pub kept_in : {n m e : ℕ} → ModuleState n m e → ℕ → KeptState n
kept_in module_ bank = (bank_at module_ bank).bank.kept

-- a module has an image: its sizes, and the registers of its banks, have the room that an image gives them
pub record HasImage {n m e : ℕ} (module_ : ModuleState n m e) : Type 0 where
  pub small : IsSmall module_.shape
  pub few_lines : (bank : ℕ) → bank < module_.shape.banks → (kept_in module_ bank).shape.lines ≤ small_limits.lines

-- of the image of a saved module first bytes were written, no more than to the end of some of the array's first
-- rows, each of which has the bytes of a line
pub record WritesRows {n m : ℕ} (array : ArrayState n m) (saved : Saved n m) (was now : Option (List ℕ)) : Type 0 where
  pub count : ℕ
  pub rows : AreRowsTo count array
  pub part : AppendsPrefix was now (image_bytes (first_rows count saved))
