use Rattle.std.proofs.Common.{◌≡◌, ◌/◌, subst}
use Rattle.region_regs.specs.Region.{RegionState}
use Rattle.power_recovery.proofs.Bundle.{stores_head, read_region}
use Rattle.power_recovery.proofs.kept.Kept.stored.Goals as goal

pub stored-requires : goal.stored-requires
stored-requires g c =
    let next = rw (← c.self.view_is) at c.requires in
    let stores = stores_head _ c.in-Some.head c.self.invariant.1 next c.in-Some.ensures.head in
    let read = read_region c.self.inside.regions.items (c.in-Some.head.line / c.self.inside.shape.lines) _ stores.exists c.index_mut.ensures.value in
    let P : RegionState → Type 0 = λ r. r.counter ≡ r.psi → ⊥ in
    record { not_due = subst P read stores.not_due }

pub invariant_of-self : goal.invariant_of-self
invariant_of-self g c =
    let next = rw (← c.self.view_is) at c.requires in
    let stores = stores_head _ c.in-Some.head c.self.invariant.1 next c.in-Some.ensures.head in
    let read = read_region c.self.inside.regions.items (c.in-Some.head.line / c.self.inside.shape.lines) _ stores.exists c.index_mut.ensures.value in
    rw (c.in-Some.ensures.rest, c.stored.ensures.counted, ← read) (c.self.invariant.0, stores.range)

pub returns-clause-in_range : goal.returns-clause-in_range
returns-clause-in_range g c =
    let next = rw (← c.self.view_is) at c.requires in
    let stores = stores_head _ c.in-Some.head c.self.invariant.1 next c.in-Some.ensures.head in
    let read = read_region c.self.inside.regions.items (c.in-Some.head.line / c.self.inside.shape.lines) _ stores.exists c.index_mut.ensures.value in
    rw (c.in-Some.ensures.rest, c.stored.ensures.counted, ← read) stores.range
