use Rattle.std.proofs.Common.{ℕ, ◌+◌, ◌*◌, ◌≤◌, ◌&&◌, Bool, w64, arith, bit_and}
use Rattle.std.proofs.Math.Facts.{Fits-and}
use Rattle.cell_rows.{specs.Rows.cell, proofs.RowLemmas.members_le}
use Rattle.pcm_cells.proofs.EnergyLemmas.{both_bits, members_block}
use Rattle.pcm_cells.proofs.energies.count_in.Goals as goal

pub loop-block-preserved : goal.loop-block-preserved
loop-block-preserved g c =
    let i = c.loop-block.invariant in
    let block = c.loop-block.block in
    let mask = cell c.args.mask.now in
    let want = cell c.args.want.now in
    let small = (Fits-and {w = w64} c.block.result (record { fits = c.block-bits.type_inv })).fits in
    let bits = both_bits mask want c.block-bits.result c.block.result (64 * block) c.block-bits.ensures c.block.ensures in
    record {
      order = omega (arith, i.order);
      all = members_block mask block (64 * c.args.from) c.loop-block.all c.block-bits.result c.block-bits.type_inv c.block-bits.ensures i.all;
      set = members_block (λ n. mask n && want n) block (64 * c.args.from) c.loop-block.set (bit_and c.block-bits.result c.block.result) small bits i.set;
    }

pub overflow_add-all : goal.overflow_add-all
overflow_add-all g c =
    let i = c.loop-block.invariant in
    let block = c.loop-block.block in
    let mask = cell c.args.mask.now in
    let few_bytes : g.row.B ≤ 128 = c.requires.shape.1 in
    let few_check : g.row.M ≤ 16 = c.requires.shape.3 in
    let more = members_block mask block (64 * c.args.from) c.loop-block.all c.block-bits.result c.block-bits.type_inv c.block-bits.ensures i.all in
    let test = c.loop-block-test.true in
    omega (arith, more, members_le mask (64 * (block + 1)), few_bytes, few_check, c.requires.exists, test)

pub overflow_add-set : goal.overflow_add-set
overflow_add-set g c =
    let i = c.loop-block.invariant in
    let block = c.loop-block.block in
    let mask = cell c.args.mask.now in
    let want = cell c.args.want.now in
    let both : ℕ → Bool = λ n. mask n && want n in
    let few_bytes : g.row.B ≤ 128 = c.requires.shape.1 in
    let few_check : g.row.M ≤ 16 = c.requires.shape.3 in
    let small = (Fits-and {w = w64} c.block.result (record { fits = c.block-bits.type_inv })).fits in
    let bits = both_bits mask want c.block-bits.result c.block.result (64 * block) c.block-bits.ensures c.block.ensures in
    let more = members_block both block (64 * c.args.from) c.loop-block.set (bit_and c.block-bits.result c.block.result) small bits i.set in
    let test = c.loop-block-test.true in
    omega (arith, more, members_le both (64 * (block + 1)), few_bytes, few_check, c.requires.exists, test)
