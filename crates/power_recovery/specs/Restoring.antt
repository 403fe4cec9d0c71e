-- What a bank keeps once all but its queue was taken from it, and what puts it back.
use Rattle.std.specs.Prelude.{◌≡◌, ℕ, ◌<◌, slice_set}
use Rattle.region_regs.specs.Region.{RegionState}
use Rattle.bank_shape.specs.declared.BankShape.{BankShape}
use Rattle.power_recovery.specs.{Events.{first_kept, with_entries, with_regions}, Kept.{KeptState, region_at}}

-- a region of this bank with these registers and this counter
abbrev pub region_with : BankShape → ℕ → ℕ → ℕ → RegionState
region_with shape start gap counter = record { rotation = record { lines = shape.lines; start = start; gap = gap }; psi = shape.psi; counter = counter }

module _ {n : ℕ} where
  -- the queue is left, and all else is as it was at first
  abbrev pub stripped_kept : KeptState n → KeptState n
  stripped_kept kept = with_entries (first_kept kept.shape) kept.entries

  -- after the registers and the counter of a region were put back
  abbrev pub region_restored : ℕ → ℕ → ℕ → ℕ → KeptState n → KeptState n
  region_restored i start gap counter kept = with_regions kept (slice_set kept.regions i (region_with kept.shape start gap counter))

  -- at most one region is due
  abbrev pub IsOneDue : KeptState n → Type 0
  IsOneDue kept = (region other : ℕ) → region < kept.shape.regions → other < kept.shape.regions
      → (region_at kept region).counter ≡ kept.shape.psi → (region_at kept other).counter ≡ kept.shape.psi → region ≡ other
