use Rattle.std.proofs.Common.{rules, arith, ℕ, ◌<◌, slice_index, subst, sym, ◌∙◌, bit_xor}
use Rattle.cell_rows.proofs.{ByteLemmas.{xors_all, bit_of_xor, bytes_from_bits, xor_false}, LaneLemmas.{Joins, joins_none, joins_lanes, joins_byte}}
use Rattle.cell_rows.proofs.bytes.xor_with.Goals as goal

pub loop-step-init : goal.loop-step-init
loop-step-init c = joins_none bit_xor c.args.bytes.now c.args.other.now

pub loop-step-preserved : goal.loop-step-preserved
loop-step-preserved c =
    joins_lanes bit_xor c.args.bytes.now c.args.other.now c.loop-step.bytes c.loop-step.step (omega arith) (omega arith) c.loop-step.invariant

pub loop-i-init : goal.loop-i-init
loop-i-init c = subst (Joins bit_xor c.args.bytes.now c.args.other.now c.loop-step.bytes) (omega arith) c.loop-step.invariant

pub loop-i-preserved : goal.loop-i-preserved
loop-i-preserved c = joins_byte bit_xor c.args.bytes.now c.args.other.now c.loop-i.bytes c.loop-i.i (omega arith) c.loop-i.invariant

pub returns-clause-bits : goal.returns-clause-bits
returns-clause-bits c =
    let joins = c.loop-i.invariant in
    bit_of_xor _ _ _ (xors_all c.args.bytes.now c.args.other.now c.loop-i.bytes c.loop-i.i c.requires (omega arith) joins.done joins.kept)

pub returns-clause-same : goal.returns-clause-same
returns-clause-same c none =
    let joins = c.loop-i.invariant in
    let bits = bit_of_xor _ _ _ (xors_all c.args.bytes.now c.args.other.now c.loop-i.bytes c.loop-i.i c.requires (omega arith) joins.done joins.kept) in
    let small : (k : ℕ) → slice_index c.args.bytes.now k < 256 = search rules in
    bytes_from_bits _ _ c.requires (λ k h. small k) (λ k h. (c.type_inv.other k).fits)
    (λ n. xor_false _ _ (sym (bits n) ∙ none n))
