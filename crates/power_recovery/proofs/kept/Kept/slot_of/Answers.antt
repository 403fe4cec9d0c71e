use Rattle.std.proofs.Common.{ℕ, ◌+◌, ◌*◌, ◌^◌, ◌/◌, ◌<◌, rules, sym, ◌∙◌, subst, arith}
use Rattle.bank_shape.specs.Shape.{slots_of}
use Rattle.power_recovery.proofs.Placing.{slot_of-place, slot_of-within, slot_of-after, slot_of-apart}
use Rattle.power_recovery.proofs.kept.Kept.slot_of.Goals as goal

pub overflow_add-result-2 : goal.overflow_add-result-2
overflow_add-result-2 g c =
    let range = c.self.invariant.1 in
    let exists = rw (← c.self.view_is) at c.requires in
    let region = rw (← c.self.view_is) at c.region.ensures.region in
    let slot = slot_of-place _ c.args.line c.place-place.result _ _ range region c.registers.ensures.rotation c.place-place.ensures.by_registers in
    let within = slot_of-within _ range c.args.line exists in
    let fits : c.args.line / c.self.inside.shape.lines * (c.self.inside.shape.lines + 1) + c.place-place.result < 2 ^ 32 = omega (arith, slot, within, range.shape.fits) in
    search rules

pub returns-clause-slot : goal.returns-clause-slot
returns-clause-slot g c =
    let region = rw (← c.self.view_is) at c.region.ensures.region in
    rw (← c.self.view_is) (slot_of-place _ c.args.line c.place-place.result _ _ c.self.invariant.1 region c.registers.ensures.rotation c.place-place.ensures.by_registers)

pub returns-clause-exists : goal.returns-clause-exists
returns-clause-exists g c =
    let range = c.self.invariant.1 in
    let exists = rw (← c.self.view_is) at c.requires in
    let region = rw (← c.self.view_is) at c.region.ensures.region in
    let slot = slot_of-place _ c.args.line c.place-place.result _ _ range region c.registers.ensures.rotation c.place-place.ensures.by_registers in
    rw (← c.self.view_is) (subst (λ (s : ℕ). s < slots_of c.self.inside.shape) (sym slot) (slot_of-within _ range c.args.line exists))

pub returns-clause-after : goal.returns-clause-after
returns-clause-after g c =
    let range = c.self.invariant.1 in
    let exists = rw (← c.self.view_is) at c.requires in
    let region = rw (← c.self.view_is) at c.region.ensures.region in
    let slot = slot_of-place _ c.args.line c.place-place.result _ _ range region c.registers.ensures.rotation c.place-place.ensures.by_registers in
    rw (← c.self.view_is) (λ t stands. slot ∙ slot_of-after _ range c.args.line t exists stands)

pub returns-clause-apart : goal.returns-clause-apart
returns-clause-apart g c =
    let range = c.self.invariant.1 in
    let exists = rw (← c.self.view_is) at c.requires in
    let region = rw (← c.self.view_is) at c.region.ensures.region in
    let slot = slot_of-place _ c.args.line c.place-place.result _ _ range region c.registers.ensures.rotation c.place-place.ensures.by_registers in
    rw (← c.self.view_is) (λ other below e. slot_of-apart _ range c.args.line other exists below (e ∙ slot))
