use Rattle.std.proofs.Common.{◌≡◌, sym, subst, arith}
use Rattle.region_regs.specs.Region.{RegionState}
use Rattle.power_recovery.proofs.Bundle.{due_region-Some, read_region, IsKept-moved_at}
use Rattle.power_recovery.proofs.kept.Kept.moved.Goals as goal

pub moved-requires : goal.moved-requires
moved-requires g c =
    let own = rw (← c.self.view_is) at c.in-Some.ensures in
    let found = due_region-Some _ c.in-Some.region c.self.invariant.1 (sym own) in
    let read = read_region c.self.inside.regions.items c.in-Some.region _ (omega (arith, found.0, c.self.invariant.1.all_regions)) c.index_mut.ensures.value in
    let P : RegionState → Type 0 = λ r. r.counter ≡ r.psi in
    record { due = subst P read found.1 }

pub invariant_of-self : goal.invariant_of-self
invariant_of-self g c =
    let own = rw (← c.self.view_is) at c.in-Some.ensures in
    let found = due_region-Some _ c.in-Some.region c.self.invariant.1 (sym own) in
    let read = read_region c.self.inside.regions.items c.in-Some.region _ (omega (arith, found.0, c.self.invariant.1.all_regions)) c.index_mut.ensures.value in
    rw (c.moved.ensures.moved, ← read) (c.self.invariant.0, IsKept-moved_at _ c.in-Some.region c.self.invariant.1 (sym own))

pub returns-clause-in_range : goal.returns-clause-in_range
returns-clause-in_range g c =
    let own = rw (← c.self.view_is) at c.in-Some.ensures in
    let found = due_region-Some _ c.in-Some.region c.self.invariant.1 (sym own) in
    let read = read_region c.self.inside.regions.items c.in-Some.region _ (omega (arith, found.0, c.self.invariant.1.all_regions)) c.index_mut.ensures.value in
    rw (c.moved.ensures.moved, ← read) (IsKept-moved_at _ c.in-Some.region c.self.invariant.1 (sym own))
