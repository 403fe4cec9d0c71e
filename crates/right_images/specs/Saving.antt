-- The image of a module: what its banks keep, and what the cells of its array hold.
use Rattle.std.specs.{List.range_with_len, Prelude.{ℕ, if◌then◌else◌, map, List, take}}
use Rattle.bank_shape.specs.declared.Home.{Home}
use Rattle.bank_shape.specs.declared.Home.TheVariants as home
use Rattle.module_shape.specs.declared.raw.RawShape.{RawShape}
use Rattle.pcm_image.specs.{Saved.{Head, SavedBank, Saved}, declared.EntryImage.EntryImage, declared.RegionImage.RegionImage}
use Rattle.region_regs.specs.Region.{RegionState}
use Rattle.masked_bytes.specs.declared.entry.Entry.{Entry}
use Rattle.power_recovery.specs.Kept.{KeptState}
use Rattle.cell_rows.specs.{Device.ArrayState, declared.row.Cells.Cells}

-- the number by which an image says where the registers are kept
abbrev pub home_number : Home → ℕ
home_number home.Guarded = 0
home_number home.Array = 1

-- the numbers of a module of these sizes, whose randomiser has this seed
abbrev pub head_of : RawShape → ℕ → Head
head_of raw seed = record {
  banks = raw.banks;
  regions = raw.regions;
  lines = raw.lines;
  spares = raw.spares;
  seed = seed;
  home = home_number raw.home;
}

-- the registers of a region
abbrev pub saved_region : RegionState → RegionImage
saved_region r = record { start = r.rotation.start; gap = r.rotation.gap; counter = r.counter }

-- a write of a queue, without the number of its row
abbrev pub saved_entry : {n : ℕ} → Entry n → EntryImage n
saved_entry e = record { line = e.line; bytes = e.bytes; given = e.given }

-- what a bank keeps
abbrev pub saved_bank : {n : ℕ} → KeptState n → SavedBank n
saved_bank kept = record {
  mark = if kept.exhausted then 1 else 0;
  replaced = kept.table.replaced;
  regions = map saved_region kept.regions;
  entries = map saved_entry kept.entries;
}

-- so many banks, and the cells of so many array lines
abbrev pub saved_banks : {n : ℕ} → (ℕ → KeptState n) → ℕ → List (SavedBank n)
saved_banks kept count = map (λ bank. saved_bank (kept bank)) (range_with_len 0 count)

-- the cells of so many array lines
abbrev pub saved_cells : {n m : ℕ} → ArrayState n m → ℕ → List (Cells n m)
saved_cells array count = map (λ line. (array.line line).held) (range_with_len 0 count)

-- a module of these sizes whose banks keep this, over this array, as it is saved
abbrev pub saved_of : {n m : ℕ} → RawShape → ℕ → (ℕ → KeptState n) → ArrayState n m → Saved n m
saved_of raw seed kept array =
    record { head = head_of raw seed; parts = saved_banks kept raw.banks; cells = saved_cells array array.lines }

-- the same, with the cells of its first array lines alone, so many
abbrev pub first_rows : {n m : ℕ} → ℕ → Saved n m → Saved n m
first_rows count s = record { head = s.head; parts = s.parts; cells = take count s.cells }
