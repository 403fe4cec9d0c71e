-- How many line writes ended, reads were served and cuts came, over some events.
use Rattle.std.proofs.Common.{ℕ, ◌+◌, Bool, true, false, List, [], ◌∷◌}
use Rattle.bank_shape.specs.declared.answer.Keep.TheVariants as keep
use Rattle.bank_shape.specs.declared.answer.Step.TheVariants as did
use Rattle.bank_model.specs.{Events.{Serve, Begin, Iterate, Cut}, Timing.{Happens, Core, Regs, KeepBegin, KeepIterate, KeepCut, TimedEvent}}

module _ {n : ℕ} where
  -- one for each store, move, retirement or serve
  abbrev pub stores_by : Happens n → ℕ
  stores_by (Core (Begin (did.Stored row place))) = 1
  stores_by (Core (Iterate (did.Stored row place))) = 1
  stores_by _ = 0

  abbrev pub moves_by : Happens n → ℕ
  moves_by (Core (Begin (did.Moved move))) = 1
  moves_by (Core (Iterate (did.Moved move))) = 1
  moves_by _ = 0

  abbrev pub retires_by : Happens n → ℕ
  retires_by (Core (Iterate (did.Retired slot line))) = 1
  retires_by _ = 0

  -- one for each retirement, and for each change that is written
  abbrev pub others_by : Happens n → ℕ
  others_by (Core (Iterate (did.Retired slot line))) = 1
  others_by (Regs (KeepBegin keep.Done)) = 1
  others_by (Regs (KeepIterate keep.Done)) = 1
  others_by _ = 0

  abbrev pub serves_by : Happens n → ℕ
  serves_by (Core (Serve answer)) = 1
  serves_by _ = 0

  -- one for each cut, but for a cancel; and one for each cancel
  abbrev pub cuts_by : Happens n → Bool → ℕ
  cuts_by (Core (Cut tearing)) false = 1
  cuts_by _ _ = 0

  abbrev pub cancelled_by : Happens n → Bool → ℕ
  cancelled_by (Core (Cut tearing)) true = 1
  cancelled_by (Regs (KeepCut tearing)) true = 1
  cancelled_by _ _ = 0

-- the sum of that over some events
abbrev pub tally : {n m : ℕ} → (Happens n → ℕ) → List (TimedEvent n m) → ℕ
tally by [] = 0
tally by (x ∷ xs) = by x.happens + tally by xs

abbrev pub tally_cuts : {n m : ℕ} → (Happens n → Bool → ℕ) → List (TimedEvent n m) → ℕ
tally_cuts by [] = 0
tally_cuts by (x ∷ xs) = by x.happens x.cancels + tally_cuts by xs
