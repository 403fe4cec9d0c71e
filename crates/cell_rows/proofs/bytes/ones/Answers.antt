use Rattle.std.proofs.Common.{◌≡◌, ◌+◌, ◌*◌, ◌/◌, ◌∙◌, length, ap, sym, arith, slice_index}
use Rattle.std.specs.Int.RustNames.{count_ones}
use Rattle.cell_rows.{specs.Rows.{bit_of, members}, proofs.BlockLemmas.count_bits, proofs.ByteLemmas.bit_of_byte, proofs.RowLemmas.{members-zero, members_le}}
use Rattle.cell_rows.proofs.bytes.ones.Goals as goal

pub loop-block-init : goal.loop-block-init
loop-block-init c = sym (members-zero (bit_of c.args.bytes.now))

pub overflow_add-total : goal.overflow_add-total
overflow_add-total c =
    let has = bit_of c.args.bytes.now in
    let block = c.loop-block.block in
    let more = count_bits has 64 (64 * block) c.read_block.result (omega arith) c.read_block.ensures in
    omega (arith, more, members_le has (64 * block + 64))

pub loop-block-preserved : goal.loop-block-preserved
loop-block-preserved c =
    let has = bit_of c.args.bytes.now in
    let block = c.loop-block.block in
    let next : 64 * block + 64 ≡ 64 * (block + 1) = omega arith in
    ap (λ n. n + count_ones c.read_block.result) c.loop-block.invariant ∙ sym (count_bits has 64 (64 * block) c.read_block.result (omega arith) c.read_block.ensures) ∙ ap (members has) next

pub loop-i-init : goal.loop-i-init
loop-i-init c =
    let here : 64 * c.loop-block.block ≡ 8 * (length c.args.bytes.now / 8 * 8) = omega arith in
    c.loop-block.invariant ∙ ap (members (bit_of c.args.bytes.now)) here

pub overflow_add-total-in-loop-i : goal.overflow_add-total-in-loop-i
overflow_add-total-in-loop-i c =
    let has = bit_of c.args.bytes.now in
    let i = c.loop-i.i in
    let more = count_bits has 8 (8 * i) (slice_index c.args.bytes.now i) ((c.type_inv.bytes i).fits) (λ k low. sym (bit_of_byte c.args.bytes.now i k low)) in
    omega (arith, more, members_le has (8 * i + 8))

pub loop-i-preserved : goal.loop-i-preserved
loop-i-preserved c =
    let has = bit_of c.args.bytes.now in
    let i = c.loop-i.i in
    let next : 8 * i + 8 ≡ 8 * (i + 1) = omega arith in
    ap (λ n. n + count_ones (slice_index c.args.bytes.now i)) c.loop-i.invariant ∙ sym (count_bits has 8 (8 * i) (slice_index c.args.bytes.now i) ((c.type_inv.bytes i).fits) (λ k low. sym (bit_of_byte c.args.bytes.now i k low))) ∙ ap (members has) next

pub returns : goal.returns
returns c =
    let all : 8 * c.loop-i.i ≡ 8 * length c.args.bytes.now = omega arith in
    c.loop-i.invariant ∙ ap (members (bit_of c.args.bytes.now)) all
