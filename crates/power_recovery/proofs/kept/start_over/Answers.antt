use Rattle.std.proofs.Common.{length, arith, ◌∙◌}
use Rattle.region_regs.specs.Region.{first_region}
use Rattle.power_recovery.proofs.Restoring.{first-set, all-first}
use Rattle.power_recovery.proofs.kept.start_over.Goals as goal

pub loop-i-preserved : goal.loop-i-preserved
loop-i-preserved c =
    let more = first-set c.loop-i.regions c.loop-i.i (first_region c.args.lines c.args.psi) (omega (arith, c.loop-i-test.true, c.loop-i.invariant.0)) c.loop-i.invariant.1 in
    rw c.new.ensures.fresh (more.0 ∙ c.loop-i.invariant.0, more.1)

pub returns : goal.returns
returns c =
    all-first c.loop-i.regions (length c.args.regions.now) (first_region c.args.lines c.args.psi) c.loop-i.invariant.0
    (λ k below. c.loop-i.invariant.1 k (omega (arith, below, c.loop-i-test.false)))
