use Rattle.std.proofs.Common.{◌≡◌, ℕ, replicate, refl, subst, arith, add-one}
use Rattle.region_regs.specs.Region.{first_region}
use Rattle.power_recovery.proofs.Bundle.{first_regions-more, IsKept-first}
use Rattle.power_recovery.proofs.kept.Kept.new.Goals as goal

pub loop-preserved : goal.loop-preserved
loop-preserved g c =
    rw (add-one, c.in_ok-push.ensures.items, c.loop.invariant, c.new-in-loop.ensures.fresh)
    (first_regions-more c.loop.counter (first_region c.args.shape.lines c.args.shape.psi))

pub invariant_of-result : goal.invariant_of-result
invariant_of-result g c =
    let end : c.loop.counter ≡ c.args.shape.regions = omega arith in
    let all = subst (λ (i : ℕ). c.loop.regions.items ≡ replicate i (first_region c.args.shape.lines c.args.shape.psi)) end c.loop.invariant in
    rw (c.in_ok-queue.ensures, c.in_ok-remap.ensures.fresh, all) (refl, IsKept-first c.args.shape c.requires.some_bytes c.requires.few_bytes c.requires.limits)
