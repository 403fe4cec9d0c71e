-- What is read back of what a bank kept, and how far it has been.
use Rattle.std.specs.Prelude.{ℕ, zero, suc, List, [], ◌∷◌, take, replicate, false}
use Rattle.region_regs.specs.Region.{first_region}
use Rattle.power_recovery.specs.{Events.with_regions, Kept.KeptState, Restoring.stripped_kept}
use Rattle.bank_core.specs.Stepping.{with_kept}
use Rattle.clock_laws.specs.State.{ClockState}

-- a bank with its clock, which keeps this
abbrev pub keeping : {n m e : ℕ} → KeptState n → ClockState n m e → ClockState n m e
keeping kept clock = record clock { bank = with_kept clock.bank kept }

-- the first so many of one list, and the rest of another
abbrev pub merged : {A : Type 0} → ℕ → List A → List A → List A
merged zero xs ys = ys
merged (suc i) (x ∷ xs) (y ∷ ys) = x ∷ merged i xs ys
merged (suc i) [] ys = ys
merged (suc i) (x ∷ xs) [] = []

module _ {n : ℕ} where
  -- so many regions are read back, and all else but the queue is as it was at first
  abbrev pub regions_back : ℕ → KeptState n → KeptState n
  regions_back i kept = with_regions (stripped_kept kept) (merged i kept.regions (replicate kept.shape.regions (first_region kept.shape.lines kept.shape.psi)))

  -- all regions and so many spares are
  abbrev pub spares_back : ℕ → KeptState n → KeptState n
  spares_back j kept = record {
    shape = kept.shape;
    entries = kept.entries;
    table = record { slots = kept.table.slots; spares = kept.table.spares; replaced = take j kept.table.replaced };
    regions = kept.regions;
    exhausted = false;
  }

  -- all but the mark is
  abbrev pub mark_back : KeptState n → KeptState n
  mark_back kept = record { shape = kept.shape; entries = kept.entries; table = kept.table; regions = kept.regions; exhausted = false }
