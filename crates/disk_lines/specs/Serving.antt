-- A disk of bytes on a module.
use Rattle.std.specs.Prelude.{ℕ, List}
use Rattle.row_rules.specs.Rows.{newest}
use Rattle.pcm_module.specs.State.{ModuleState}
use Rattle.atomic_sectors.specs.declared.layout.Layout.{Layout}
use Rattle.disk_rules.specs.{Disk.{IsDisk, Written}, Standing.{HoldsDisk, disk_size, sector_size}, declared.DiskAnswer.DiskAnswer, declared.DiskRequest.DiskRequest}
use Rattle.disk_lines.specs.{Asking.rows_heard, Places.place_of, declared.watch.Heard.Heard}

module _ {n m e : ℕ} (module_ : ModuleState n m e) (heard : List (Heard n)) where
  -- the bytes of a line of the disk: the newest ones, by the rows that came, that are in its place
  abbrev pub bytes_by_rows : ℕ → List ℕ
  bytes_by_rows line = newest (rows_heard heard) (place_of module_.shape module_.seed line)

  -- the answers are those of a disk on which these writes were made, and all of them are in the module, by its rows
  pub record IsDiskByRows (layout : Layout) (asked : List (DiskRequest × DiskAnswer)) : Type 0 where
    pub writes : List Written
    pub answers : IsDisk (disk_size n layout) (sector_size n layout) asked writes
    pub rows : HoldsDisk n layout bytes_by_rows writes
