use Rattle.std.proofs.Common.{ℕ, ◌*◌, ◌^◌, ◌≤◌, Bool, false, sym, arith}
use Rattle.std.{specs.Prelude.slice_index_or, proofs.Math.Pow.pow_mono}
use Rattle.ecp_line.proofs.Digits.{number-none, number-one, number-zero, number-lt}
use Rattle.pcm_image.proofs.writing.packed_byte.Goals.{then-given-byte, else-given-byte}
use Rattle.pcm_image.proofs.writing.packed_byte.Goals as goal

pub loop-i-init : goal.loop-i-init
loop-i-init c = sym (number-none (λ i. slice_index_or c.args.given.now i false) (8 * c.args.byte))

pub overflow_add-bits : goal.overflow_add-bits
overflow_add-bits c =
    let low = number-lt (λ i. slice_index_or c.args.given.now i false) (8 * c.args.byte) c.loop-i.i in
    let weight : 2 ^ c.loop-i.i ≤ 2 ^ 7 = pow_mono {i = c.loop-i.i} {j = 7} (omega arith) in
    let k = c.loop-i.invariant in omega arith

pub loop-i-preserved : goal.loop-i-preserved
loop-i-preserved c =
    let f : ℕ → Bool = λ i. slice_index_or c.args.given.now i false in
    let weight : 2 ^ c.loop-i.i ≤ 2 ^ 7 = pow_mono {i = c.loop-i.i} {j = 7} (omega arith) in
    elim c.if-given-byte.branch [
      | then-given-byte w ↦ let e = number-one f (8 * c.args.byte) c.loop-i.i w.if-given-byte.true in let at = w.bits-is in let k = c.loop-i.invariant in omega arith
      | else-given-byte w ↦ let e = number-zero f (8 * c.args.byte) c.loop-i.i w.if-given-byte.false in let at = w.bits-is in let k = c.loop-i.invariant in omega arith
    ]
