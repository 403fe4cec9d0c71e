use Rattle.std.proofs.Common.{◌≡◌, replicate}
use Rattle.region_regs.specs.Region.{first_region}
use Rattle.power_recovery.proofs.kept.Kept.new.Given as goal

abbrev pub invariant-loop : goal.invariant-loop
invariant-loop g l = l.regions.items ≡ replicate l.counter (first_region l.shape.lines l.shape.psi)
