use Rattle.std.proofs.Common.{◌<◌, ap, arith}
use Rattle.spare_pool.{specs.Table.Table, proofs.Chains.{lines-retired, stores-retired}}
use Rattle.spare_pool.proofs.Remap.retire.Goals as goal

pub invariant_of-self : goal.invariant_of-self
invariant_of-self c =
    let exists : c.args.slot < c.self.inside.slots = omega (arith, ap (λ (t : Table). t.slots) c.self.view_is) in
    stores-retired _ _ _ _ _ _ _ c.self.invariant exists (omega (arith, c.len.ensures, c.self.invariant.within)) (omega arith) c.index.ensures

pub returns-clause-lines : goal.returns-clause-lines
returns-clause-lines c = rw (← c.self.view_is) (lines-retired _ _ _ _ (omega (arith, c.len.ensures, c.self.invariant.within)))

pub returns-clause-in_range : goal.returns-clause-in_range
returns-clause-in_range c =
    let exists : c.args.slot < c.self.inside.slots = omega (arith, ap (λ (t : Table). t.slots) c.self.view_is) in
    (stores-retired _ _ _ _ _ _ _ c.self.invariant exists (omega (arith, c.len.ensures, c.self.invariant.within)) (omega arith) c.index.ensures).table
