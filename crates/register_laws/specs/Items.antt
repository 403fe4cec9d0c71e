-- The values of each item in what a bank keeps: those of a region, of a spare, and of the mark.
use Rattle.std.specs.Prelude.{ℕ, ◌+◌, ◌-◌, nat_lt, Bool, true, false, if◌then◌else◌, List, [], ◌∷◌, Option, Some, None, slice_get}
use Rattle.region_regs.specs.Region.{RegionState}
use Rattle.bank_shape.specs.declared.BankShape.{BankShape}
use Rattle.power_recovery.specs.Kept.{KeptState, region_at}

-- Start, how many places the gap has moved since Start last did, and how many writes were stored since the last move
abbrev pub region_values : RegionState → List ℕ
region_values region = region.rotation.start ∷ (region.rotation.lines - region.rotation.gap) ∷ region.counter ∷ []

-- one more than the slot that was given a spare, or 0 where the spare is free
abbrev pub spare_values : Option ℕ → List ℕ
spare_values None = 0 ∷ 0 ∷ 0 ∷ []
spare_values (Some slot) = (slot + 1) ∷ 0 ∷ 0 ∷ []

-- 1 where a worn line found no spare
abbrev pub mark_values : Bool → List ℕ
mark_values false = 0 ∷ 0 ∷ 0 ∷ []
mark_values true = 1 ∷ 0 ∷ 0 ∷ []

-- how many items there are, if they are kept in the array
abbrev pub items_of : BankShape → ℕ
items_of shape = shape.regions + shape.spares + 1

-- the regions are the first items, then the spares, and the mark is the last one
abbrev pub item_values : {n : ℕ} → KeptState n → ℕ → List ℕ
item_values kept item =
    if nat_lt item kept.shape.regions then region_values (region_at kept item)
    else (if nat_lt item (kept.shape.regions + kept.shape.spares) then spare_values (slice_get kept.table.replaced (item - kept.shape.regions))
    else mark_values kept.exhausted)
