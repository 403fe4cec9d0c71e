-- What a bank keeps over a power cut, and what follows from that alone.
use Rattle.std.specs.Prelude.{◌≡◌, ℕ, ◌+◌, ◌/◌, ◌%◌, ◌<◌, ◌≤◌, ◌==◌, Bool, if◌then◌else◌, List, [], ◌∷◌, length, Option, Some, None, position, slice_index_or, IsTrue}
use Rattle.masked_bytes.specs.{Entries.AllMasked, declared.entry.Entry.Entry}
use Rattle.start_gap.specs.Rotation.{place_by, move_by}
use Rattle.region_regs.specs.Region.{RegionState, IsRegion}
use Rattle.spare_pool.specs.Table.{Table, IsTable, line_by, used_by}
use Rattle.bank_shape.specs.{Shape.{slots_of, slot_at, IsBankShape}, declared.BankShape.BankShape, declared.Work.Work, declared.Work.TheVariants.{Nothing, Store, Copy}}
use Rattle.power_recovery.specs.Slots.{bank_lines}

-- the write queue, the remap table, the regions' registers and counters, and the mark of a bank that found no spare
pub record KeptState (n : ℕ) : Type 0 where
  pub shape : BankShape
  pub entries : List (Entry n)
  pub table : Table
  pub regions : List RegionState
  pub exhausted : Bool

-- stands where no region is
abbrev pub no_region : RegionState
no_region = record { rotation = record { lines = 0; start = 0; gap = 0 }; psi = 0; counter = 0 }

-- each entry is of a line below this one
abbrev pub AllBelow : {n : ℕ} → List (Entry n) → ℕ → Type 0
AllBelow [] lines = Unit {0}
AllBelow (e ∷ es) lines = (e.line < lines) × AllBelow es lines

-- a region of such a bank
pub record IsRegionOf (shape : BankShape) (region : RegionState) : Type 0 where
  pub in_range : IsRegion region
  pub rotates : region.rotation.lines ≡ shape.lines
  pub stores : region.psi ≡ shape.psi

module _ {n : ℕ} where
  abbrev pub region_at : KeptState n → ℕ → RegionState
  region_at kept region = slice_index_or kept.regions region no_region

  -- the slot of a bank line, by the registers of its region
  abbrev pub slot_of : KeptState n → ℕ → ℕ
  slot_of kept line =
      slot_at kept.shape (line / kept.shape.lines) (place_by (region_at kept (line / kept.shape.lines)).rotation (line % kept.shape.lines))

  -- the array line of a slot, and of a bank line's slot
  abbrev pub array_line : KeptState n → ℕ → ℕ
  array_line kept slot = kept.shape.base + line_by kept.table slot

  abbrev pub stands_at : KeptState n → ℕ → ℕ
  stands_at kept line = array_line kept (slot_of kept line)

  -- the region whose gap is due to move
  abbrev pub due_region : KeptState n → Option ℕ
  due_region kept = position (λ region. region.counter == region.psi) kept.regions

  -- what would come next if the bank weren't exhausted: the move that is due, or else the store of the oldest write
  abbrev pub due_work : Option ℕ → KeptState n → List (Entry n) → Work
  due_work (Some region) kept es = Copy region (move_by (region_at kept region).rotation)
  due_work None kept [] = Nothing
  due_work None kept (e ∷ es) = Store e.line (slot_of kept e.line)

  abbrev pub next_work : KeptState n → Work
  next_work kept = if kept.exhausted then Nothing else due_work (due_region kept) kept kept.entries

  -- the slot whose array line a work writes
  abbrev pub target_slot : KeptState n → Work → ℕ
  target_slot kept Nothing = 0
  target_slot kept (Store line slot) = slot
  target_slot kept (Copy region step) = slot_at kept.shape region step.to

  -- what is true of every bundle
  pub record IsKept (kept : KeptState n) : Type 0 where
    pub some_bytes : 0 < n
    pub few_bytes : n ≤ 128
    pub shape : IsBankShape kept.shape
    pub few_entries : length kept.entries ≤ kept.shape.writes
    pub masked : AllMasked kept.entries
    pub known : AllBelow kept.entries (bank_lines kept.shape)
    pub table : IsTable kept.table
    pub slots : kept.table.slots ≡ slots_of kept.shape
    pub spares : kept.table.spares ≡ kept.shape.spares
    pub all_regions : length kept.regions ≡ kept.shape.regions
    pub regions : (region : ℕ) → region < kept.shape.regions → IsRegionOf kept.shape (region_at kept region)
    pub one_due : (region other : ℕ) → region < kept.shape.regions → other < kept.shape.regions
        → (region_at kept region).counter ≡ kept.shape.psi → (region_at kept other).counter ≡ kept.shape.psi → region ≡ other
    pub all_used : IsTrue kept.exhausted → used_by kept.table ≡ kept.table.spares
