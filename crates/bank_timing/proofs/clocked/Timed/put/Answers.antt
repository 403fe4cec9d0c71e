use Rattle.std.proofs.Common.{arith, ◌≡◌, ◌<◌, None, sym, ◌∙◌}
use Rattle.bank_timing.proofs.{Acting.some-of, Sizes.{bank_fits, regs_fits, kept_fits}}
use Rattle.bank_timing.proofs.clocked.Timed.put.Goals as goal

pub kept-requires : goal.kept-requires
kept-requires g c = (bank_fits c.self.invariant.layout, kept_fits)

pub kept-requires-in-Some : goal.kept-requires-in-Some
kept-requires-in-Some g c = (bank_fits c.self.invariant.layout, kept_fits)

pub put-requires : goal.put-requires
put-requires g c =
    let named = rw (c.shape.ensures.shape, c.kept.ensures.kept) at (sym c.item_from.ensures ∙ c.in-Some.is) in
    let free = rw (← c.self.view_is) at c.requires.free in
    let items = rw (← c.self.view_is) at c.requires.items in
    (regs_fits g.row.B g.row.M g.row.E c.self.invariant.layout, (some-of (λ item. c.self.inside.regs.change ≡ None) _ c.in-Some.item named free, some-of (λ item. item < c.self.inside.regs.items) _ c.in-Some.item named items))

pub invariant_of-self : goal.invariant_of-self
invariant_of-self g c =
    let rests = rw (← c.self.view_is) at c.requires.rests in
    rw (c.put.ensures, rests)
    (record { layout = c.self.invariant.layout; paced = c.self.invariant.paced; room = c.self.invariant.room; begun = tt; fit = tt; idle = c.self.invariant.idle })

pub shape-requires : goal.shape-requires
shape-requires g c = grind arith

pub item_from-requires : goal.item_from-requires
item_from-requires g c = grind arith

pub item_values-values-requires : goal.item_values-values-requires
item_values-values-requires g c = grind arith

pub returns-in-Some : goal.returns-in-Some
returns-in-Some g c = grind arith

pub returns-in_default : goal.returns-in_default
returns-in_default g c = grind arith
