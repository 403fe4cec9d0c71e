use Rattle.std.proofs.Common.{arith}
use Rattle.itoa.proofs.Decimal.{length_four}
use Rattle.pcm_io.proofs.DigitLemmas.{twenty_digits}
use Rattle.pcm_io.proofs.decimal.digits_in.Goals as goal

pub overflow_add-behind : goal.overflow_add-behind
overflow_add-behind c = record { fits = omega (arith, c.loop-left.invariant, twenty_digits c.args.number c.ranges.number.fits) }

pub loop-left-preserved : goal.loop-left-preserved
loop-left-preserved c =
    omega (arith, c.loop-left.invariant, length_four c.loop-left.left c.loop-left-test.true c.loop-left.auto.left-fits.fits)

pub overflow_add-result : goal.overflow_add-result
overflow_add-result c = record { fits = omega (arith, c.few_digits.ensures, c.loop-left.invariant, twenty_digits c.args.number c.ranges.number.fits) }
