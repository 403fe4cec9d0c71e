use Rattle.std.proofs.Common.{arith}
use Rattle.spare_pool.proofs.Chains.{finds, looks, looks_on}
use Rattle.spare_pool.proofs.Remap.find_line.Goals as goal

pub loop-number-init : goal.loop-number-init
loop-number-init c = looks _ _ _ _ _ _ _ c.self.invariant c.index-number.ensures (omega arith)

pub returns-then-index-slot : goal.returns-then-index-slot
returns-then-index-slot c =
    rw (← c.self.view_is) (finds _ _ _ _ _ _ _ _ c.self.invariant c.loop-number.invariant (omega (arith, c.loop-number-test.true)) c.index.ensures c.if-index-slot.true)

pub loop-number-smaller : goal.loop-number-smaller
loop-number-smaller c =
    (looks_on _ _ _ _ _ _ _ _ _ c.self.invariant c.loop-number.invariant (omega (arith, c.loop-number-test.true)) c.index.ensures c.if-index-slot.false c.index-number-in-loop-number.ensures).0

pub loop-number-preserved : goal.loop-number-preserved
loop-number-preserved c =
    (looks_on _ _ _ _ _ _ _ _ _ c.self.invariant c.loop-number.invariant (omega (arith, c.loop-number-test.true)) c.index.ensures c.if-index-slot.false c.index-number-in-loop-number.ensures).1
