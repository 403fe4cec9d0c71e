use Rattle.std.proofs.Common.{arith, subst, bit_or}
use Rattle.std.{specs.Simd.Lanes.fold_l, proofs.lemmas.Bool.{eqb-true, eqb-false}}
use Rattle.cell_rows.proofs.{ByteLemmas.{some_bit_of, no_bit_of}, LaneLemmas.{Bounds, gathers_none, gathers_lanes, bounds_lanes, bounds_byte}}
use Rattle.cell_rows.proofs.bytes.is_zero.Goals as goal

pub loop-step-init : goal.loop-step-init
loop-step-init c = gathers_none c.args.bytes.now

pub loop-step-preserved : goal.loop-step-preserved
loop-step-preserved c = gathers_lanes c.args.bytes.now c.loop-step.lanes c.loop-step.step (omega arith) c.loop-step.invariant

pub loop-i-init : goal.loop-i-init
loop-i-init c = subst (Bounds c.args.bytes.now (fold_l bit_or 0 c.loop-step.lanes)) (omega arith) (bounds_lanes c.args.bytes.now c.loop-step.lanes _ c.loop-step.invariant)

pub loop-i-preserved : goal.loop-i-preserved
loop-i-preserved c = bounds_byte c.args.bytes.now c.loop-i.all c.loop-i.i c.loop-i.invariant

pub returns-clause-none : goal.returns-clause-none
returns-clause-none c t =
    no_bit_of c.args.bytes.now
    (λ k h. omega (arith, c.loop-i.invariant.low k (omega arith), eqb-true c.loop-i.all 0 t))

pub returns-clause-some : goal.returns-clause-some
returns-clause-some c f =
    let (k, low, is) = c.loop-i.invariant.some (eqb-false c.loop-i.all 0 f) in
    some_bit_of c.args.bytes.now k (omega (arith, low)) ((c.type_inv.bytes _).fits) is
