use Rattle.std.proofs.Common.{◌≡◌, ◌-◌, get_or, sym, arith, rules}
use Rattle.trace_reader.proofs.Numbers.{digit-back, digit-small, few-fits, few-next, number_of-not_digit, number_of-all, number_of-all_great, reads-more}
use Rattle.trace_reader.proofs.decimal.short_number.Goals as goal

pub returns-then-not-is_ascii_digit : goal.returns-then-not-is_ascii_digit
returns-then-not-is_ascii_digit c =
    sym (number_of-not_digit c.args.width c.args.most c.args.text.now c.loop-digit.digit-index c.loop-digit-test.true
    (sym c.if-not-is_ascii_digit.ensures.value))

pub overflow_mul-value : goal.overflow_mul-value
overflow_mul-value c = omega (arith, few-fits c.loop-digit.digit-index c.loop-digit.value (omega (arith, c.loop-digit-test.true, c.requires.few)) c.loop-digit.invariant.small)

pub overflow_add-value : goal.overflow_add-value
overflow_add-value c =
    let digit = digit-small (get_or c.args.text.now c.loop-digit.digit-index 0) (sym c.if-not-is_ascii_digit.ensures.value) in
    omega (arith, digit, few-fits c.loop-digit.digit-index c.loop-digit.value (omega (arith, c.loop-digit-test.true, c.requires.few)) c.loop-digit.invariant.small)

pub loop-digit-preserved : goal.loop-digit-preserved
loop-digit-preserved c =
    let is_digit = sym c.if-not-is_ascii_digit.ensures.value in
    let code = get_or c.args.text.now c.loop-digit.digit-index 0 in
    let digit : c.from.result ≡ code - 48 = search rules in
    rw digit (record {
      reads = reads-more c.args.text.now c.loop-digit.digit-index c.loop-digit.value (code - 48) c.loop-digit-test.true is_digit c.loop-digit.invariant.reads (digit-back code is_digit);
      small = few-next c.loop-digit.digit-index c.loop-digit.value (code - 48) c.loop-digit.invariant.small (digit-small code is_digit);
    })

pub returns-then-value-most : goal.returns-then-value-most
returns-then-value-most c =
    sym (number_of-all c.args.width c.args.most c.args.text.now c.loop-digit.digit-index c.loop-digit.value
    c.requires.some c.requires.fits c.loop-digit-test.false c.loop-digit.invariant.reads c.if-value-most.true)

pub returns-else-value-most : goal.returns-else-value-most
returns-else-value-most c =
    sym (number_of-all_great c.args.width c.args.most c.args.text.now c.loop-digit.digit-index c.loop-digit.value
    c.loop-digit-test.false c.loop-digit.invariant.reads c.if-value-most.false)
