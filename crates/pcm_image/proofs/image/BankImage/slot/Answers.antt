use Rattle.std.proofs.Common.{◌∙◌, ◌+◌, ◌*◌, ◌/◌, ◌%◌, ap, arith}
use Rattle.std.proofs.lemmas.Nat.{div_below}
use Rattle.start_gap.specs.Rotation.{place_by}
use Rattle.module_shape.specs.Limits.{large_limits}
use Rattle.pcm_image.{specs.Giving.head_view, proofs.Heads.{head-fits, slot_below, slots-few}}
use Rattle.pcm_image.proofs.image.BankImage.slot.Goals as goal

pub overflow_add-result-2 : goal.overflow_add-result-2
overflow_add-result-2 g c =
    let fit = head-fits large_limits (head_view c.args.head) c.requires.head in
    let lines = ap (λ r. r.lines) c.registers_of.ensures in
    let below = slot_below c.args.head.regions c.args.head.lines (c.args.own / c.args.head.lines) c.place.result
    (div_below c.args.own c.args.head.lines c.args.head.regions (omega (arith, fit.some_lines)) c.requires.within) (omega (arith, c.place.ensures.within, lines)) in
    omega (arith, below, slots-few (head_view c.args.head) fit)

pub returns-clause-is : goal.returns-clause-is
returns-clause-is g c =
    ap (λ p. c.args.own / c.args.head.lines * (c.args.head.lines + 1) + p)
    (c.place.ensures.by_registers ∙ ap (λ r. place_by r (c.args.own % c.args.head.lines)) c.registers_of.ensures)

pub returns-clause-within : goal.returns-clause-within
returns-clause-within g c =
    let fit = head-fits large_limits (head_view c.args.head) c.requires.head in
    let lines = ap (λ r. r.lines) c.registers_of.ensures in
    slot_below c.args.head.regions c.args.head.lines (c.args.own / c.args.head.lines) c.place.result
    (div_below c.args.own c.args.head.lines c.args.head.regions (omega (arith, fit.some_lines)) c.requires.within) (omega (arith, c.place.ensures.within, lines))
