use Rattle.std.proofs.Common.{arith}
use Rattle.ecp_line.proofs.Masks.{lowest-bits, lowest-meta, lowest-none}
use Rattle.ecp_line.proofs.mask.lowest.Goals as goal

pub returns-in-Some-lowest_bit-clause-found : goal.returns-in-Some-lowest_bit-clause-found
returns-in-Some-lowest_bit-clause-found g c =
    let found = c.in-Some-lowest_bit.ensures.found in
    (omega arith, lowest-meta c.args.row.now c.in-Some-lowest_bit.index (omega arith) c.in_default.ensures.none found.1)

pub returns-in-None-clause-none : goal.returns-in-None-clause-none
returns-in-None-clause-none g c = lowest-none c.args.row.now (omega arith) c.in_default.ensures.none c.in-None.ensures.none

pub returns-clause-found : goal.returns-clause-found
returns-clause-found g c =
    let found = c.in-Some.ensures.found in
    (omega arith, lowest-bits c.args.row.now c.in-Some.index (omega arith) (omega arith) found.1)

pub is_none-requires : goal.is_none-requires
is_none-requires g c = grind arith

pub returns-then-is_none-clause-found : goal.returns-then-is_none-clause-found
returns-then-is_none-clause-found g c = grind arith

pub returns-then-is_none-clause-none : goal.returns-then-is_none-clause-none
returns-then-is_none-clause-none g c = grind arith

pub lowest_bit-requires : goal.lowest_bit-requires
lowest_bit-requires g c = grind arith

pub lowest_bit-requires-in_default : goal.lowest_bit-requires-in_default
lowest_bit-requires-in_default g c = grind arith

pub overflow_cast-result : goal.overflow_cast-result
overflow_cast-result g c = grind arith

pub overflow_mul-result : goal.overflow_mul-result
overflow_mul-result g c = grind arith

pub overflow_add-result : goal.overflow_add-result
overflow_add-result g c = grind arith

pub returns-in-Some-lowest_bit-clause-none : goal.returns-in-Some-lowest_bit-clause-none
returns-in-Some-lowest_bit-clause-none g c = grind arith

pub returns-in-None-clause-found : goal.returns-in-None-clause-found
returns-in-None-clause-found g c = grind arith

pub returns-clause-none : goal.returns-clause-none
returns-clause-none g c = grind arith
