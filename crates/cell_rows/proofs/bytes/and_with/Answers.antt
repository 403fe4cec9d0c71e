use Rattle.std.proofs.Common.{arith, subst, bit_and}
use Rattle.cell_rows.proofs.{ByteLemmas.{ands_all, bit_of_and}, LaneLemmas.{Joins, joins_none, joins_lanes, joins_byte}}
use Rattle.cell_rows.proofs.bytes.and_with.Goals as goal

pub loop-step-init : goal.loop-step-init
loop-step-init c = joins_none bit_and c.args.bytes.now c.args.other.now

pub loop-step-preserved : goal.loop-step-preserved
loop-step-preserved c =
    joins_lanes bit_and c.args.bytes.now c.args.other.now c.loop-step.bytes c.loop-step.step (omega arith) (omega arith) c.loop-step.invariant

pub loop-i-init : goal.loop-i-init
loop-i-init c = subst (Joins bit_and c.args.bytes.now c.args.other.now c.loop-step.bytes) (omega arith) c.loop-step.invariant

pub loop-i-preserved : goal.loop-i-preserved
loop-i-preserved c =
    joins_byte bit_and c.args.bytes.now c.args.other.now c.loop-i.bytes c.loop-i.i (omega arith) c.loop-i.invariant

pub returns : goal.returns
returns c =
    bit_of_and _ _ _ (ands_all c.args.bytes.now c.args.other.now c.loop-i.bytes c.loop-i.i c.requires (omega arith) c.loop-i.invariant.done c.loop-i.invariant.kept)
