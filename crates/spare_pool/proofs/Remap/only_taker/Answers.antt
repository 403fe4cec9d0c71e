use Rattle.std.proofs.Common.{arith}
use Rattle.spare_pool.proofs.{Chains.spare-only, Lines.only_own}
use Rattle.spare_pool.proofs.Remap.only_taker.Goals as goal

pub returns-then-line-self-clause-only : goal.returns-then-line-self-clause-only
returns-then-line-self-clause-only c =
    λ other exists. only_own c.args.self.now c.args.line (rw (← c.self.view_is) c.if-line-self.true) other

pub returns-then-line-self-2-clause-only : goal.returns-then-line-self-2-clause-only
returns-then-line-self-2-clause-only c =
    rw (← c.self.view_is) (spare-only _ _ _ _ _ _ _ c.self.invariant (omega (arith, c.if-line-self.false)) c.if-line-self-2.true c.index.ensures)
