use Rattle.std.proofs.Common.{arith, refl, get_or}
use Rattle.ecp_line.proofs.Masks.{lowest-byte}
use Rattle.ecp_line.proofs.mask.lowest_bit.Goals as goal

pub returns-then-byte-ne0-clause-found : goal.returns-then-byte-ne0-clause-found
returns-then-byte-ne0-clause-found c =
    lowest-byte c.args.bytes.now c.loop-index.index (get_or c.args.bytes.now c.loop-index.index 0) refl c.if-byte-ne0.true (c.type_inv.bytes c.loop-index.index).fits
    c.loop-index.invariant c.loop-index-test.true

pub loop-index-init : goal.loop-index-init
loop-index-init c = grind arith

pub bounds-bytes-index : goal.bounds-bytes-index
bounds-bytes-index c = grind arith

pub overflow_cast-result : goal.overflow_cast-result
overflow_cast-result c = grind arith

pub overflow_mul-result : goal.overflow_mul-result
overflow_mul-result c = grind arith

pub returns-then-byte-ne0-clause-none : goal.returns-then-byte-ne0-clause-none
returns-then-byte-ne0-clause-none c = grind arith

pub loop-index-smaller : goal.loop-index-smaller
loop-index-smaller c = grind arith

pub loop-index-preserved : goal.loop-index-preserved
loop-index-preserved c = grind arith

pub returns-clause-found : goal.returns-clause-found
returns-clause-found c = grind arith
