use Rattle.std.proofs.Common.{arith}
use Rattle.check_reader.proofs.Numerals.{same_number}
use Rattle.check_reader.proofs.number.is_number.Goals as goal

pub returns-in-Some : goal.returns-in-Some
returns-in-Some c =
    same_number c.args.text.now c.in-Some.number c.args.value (omega (arith, c.in-Some.ensures.some.0)) c.ranges.value.fits c.in-Some.ensures.some.1
