-- A disk of bytes on a module, all of which is kept there.
use Rattle.std.specs.Prelude.{ℕ, List}
use Rattle.cell_rows.specs.Device.{ArrayState}
use Rattle.module_shape.specs.Limits.{IsShape, total_of}
use Rattle.pcm_module.specs.State.{ModuleState, stand_now}
use Rattle.atomic_sectors.specs.{Sectors.Fits, declared.layout.Layout.Layout}
use Rattle.disk_rules.specs.{Standing.HoldsDisk, declared.DiskAnswer.DiskAnswer, declared.DiskRequest.DiskRequest}
use Rattle.disk_lines.specs.{Asking.HasHeard, Places.place_of, Serving.IsDiskByRows, declared.watch.Heard.Heard}

module _ {n m e : ℕ} (module_ : ModuleState n m e) (array : ArrayState n m) where
  -- the bytes of a line of the disk: what its array line is read as, with what its bank's queue gives laid over
  abbrev pub bytes_kept : ℕ → List ℕ
  bytes_kept line = stand_now module_ array (place_of module_.shape module_.seed line)

  -- the answers are those of a disk on which some writes were made; all of these are in the rows of its module, and all stand in the array and
  -- the protected queues
  pub record IsDiskKept (heard : List (Heard n)) (layout : Layout) (asked : List (DiskRequest × DiskAnswer)) : Type 0 where
    pub served : IsDiskByRows module_ heard layout asked
    pub kept : HoldsDisk n layout bytes_kept served.writes

-- whatever rows a module was handed so far: what is a disk by them is kept
abbrev pub DiskLaw : Type 0
DiskLaw =
    (n m e : ℕ) (module_ : ModuleState n m e) (array : ArrayState n m) (heard : List (Heard n)) (layout : Layout) (asked : List (DiskRequest × DiskAnswer))
    → IsShape module_.shape → Fits n layout (total_of module_.shape) → HasHeard module_ array heard
    → IsDiskByRows module_ heard layout asked → IsDiskKept module_ array heard layout asked
