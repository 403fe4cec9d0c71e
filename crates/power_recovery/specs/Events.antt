-- What each event leaves of what a bank keeps.
use Rattle.std.specs.Prelude.{ℕ, ◌/◌, Bool, true, false, List, [], drop, replicate, Option, Some, None, slice_set}
use Rattle.masked_bytes.specs.{Entries.{completed, head_line}, declared.entry.Entry.Entry}
use Rattle.region_regs.specs.Region.{RegionState, first_region, after_store, after_move}
use Rattle.spare_pool.specs.Table.{first_table, retired_table}
use Rattle.protected_queue.specs.Queue.{accepted}
use Rattle.bank_shape.specs.{Shape.slots_of, declared.BankShape.BankShape}
use Rattle.power_recovery.specs.Kept.{KeptState, region_at, due_region}

-- at the beginning
abbrev pub first_kept : {n : ℕ} → BankShape → KeptState n
first_kept shape = record {
  shape = shape;
  entries = [];
  table = first_table (slots_of shape) shape.spares;
  regions = replicate shape.regions (first_region shape.lines shape.psi);
  exhausted = false;
}

module _ {n : ℕ} where
  -- other entries
  abbrev pub with_entries : KeptState n → List (Entry n) → KeptState n
  with_entries kept es =
      record { shape = kept.shape; entries = es; table = kept.table; regions = kept.regions; exhausted = kept.exhausted }

  -- other regions
  abbrev pub with_regions : KeptState n → List RegionState → KeptState n
  with_regions kept rs =
      record { shape = kept.shape; entries = kept.entries; table = kept.table; regions = rs; exhausted = kept.exhausted }

  -- after a write
  abbrev pub accepted_kept : Bool → Entry n → KeptState n → KeptState n
  accepted_kept busy e kept = with_entries kept (accepted kept.shape.writes busy e kept.entries)

  -- after the head was completed from these bytes
  abbrev pub completed_kept : List ℕ → KeptState n → KeptState n
  completed_kept under kept = with_entries kept (completed under kept.entries)

  -- after the head was stored: it is gone, and its region counts one write more
  abbrev pub stored_kept : KeptState n → KeptState n
  stored_kept kept =
      let region = head_line kept.entries / kept.shape.lines in
      with_regions (with_entries kept (drop 1 kept.entries)) (slice_set kept.regions region (after_store (region_at kept region)))

  abbrev pub regions_moved : Option ℕ → KeptState n → List RegionState
  regions_moved None kept = kept.regions
  regions_moved (Some region) kept = slice_set kept.regions region (after_move (region_at kept region))

  -- after the gap move that was due
  abbrev pub moved_kept : KeptState n → KeptState n
  moved_kept kept = with_regions kept (regions_moved (due_region kept) kept)

  -- after the line of a slot was retired
  abbrev pub retired_kept : ℕ → KeptState n → KeptState n
  retired_kept slot kept =
      record { shape = kept.shape; entries = kept.entries; table = retired_table kept.table slot; regions = kept.regions; exhausted = kept.exhausted }

  -- after no spare was found
  abbrev pub exhausted_kept : KeptState n → KeptState n
  exhausted_kept kept = record { shape = kept.shape; entries = kept.entries; table = kept.table; regions = kept.regions; exhausted = true }
