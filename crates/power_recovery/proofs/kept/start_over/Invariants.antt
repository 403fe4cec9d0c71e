use Rattle.std.proofs.Common.{◌≡◌, ℕ, ◌<◌, length, get_or}
use Rattle.region_regs.specs.Region.{first_region}
use Rattle.power_recovery.specs.Kept.{no_region}
use Rattle.power_recovery.proofs.kept.start_over.Given as goal

-- there are as many regions, and those that were gone over are as at first
abbrev pub invariant-loop-i : goal.invariant-loop-i
invariant-loop-i l = (length l.regions ≡ length l.initial.regions) × ((k : ℕ) → k < l.i → get_or l.regions k no_region ≡ first_region l.lines l.psi)
