use Rattle.std.proofs.Common.{rules, ◌≢◌, ◌<◌, length, get_or}
use Rattle.check_reader.proofs.Numerals.{found_is, not_found, lead_not_printed}
use Rattle.check_reader.proofs.number.read_number.Goals as goal

pub returns-then-has_leading_zero-clause-none : goal.returns-then-has_leading_zero-clause-none
returns-then-has_leading_zero-clause-none c =
    let zero = c.has_leading_zero.ensures.0 (search rules) in
    lead_not_printed c.args.text.now c.args.most c.ranges.most.fits zero.0 zero.1

pub returns-clause-some : goal.returns-clause-some
returns-clause-some c =
    let lead : 1 < length c.args.text.now → get_or c.args.text.now 0 0 ≢ 48 = λ long zero. cc (c.has_leading_zero.ensures.1 (long, zero)) in
    found_is c.args.text.now c.args.most c.number.result c.ranges.most.fits lead c.number.ensures

pub returns-clause-none : goal.returns-clause-none
returns-clause-none c = not_found c.args.text.now c.args.most c.number.result c.ranges.most.fits c.number.ensures
