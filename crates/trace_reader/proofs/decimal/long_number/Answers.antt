use Rattle.std.proofs.Common.{◌≡◌, ◌≤◌, ◌+◌, ◌-◌, ◌*◌, ◌^◌, get_or, sym, ◌∙◌, arith, rules}
use Rattle.trace_reader.proofs.Numbers.{digit-back, number_of-not_digit, number_of-over, number_of-over_tens, number_of-all, number_of-all_great, reads-more}
use Rattle.trace_reader.proofs.decimal.long_number.Goals as goal

pub returns-then-not-is_ascii_digit : goal.returns-then-not-is_ascii_digit
returns-then-not-is_ascii_digit c =
    sym (number_of-not_digit c.args.width c.args.most c.args.text.now c.loop-digit.digit-index c.loop-digit-test.true
    (sym c.if-not-is_ascii_digit.ensures.value))

pub returns-in_err-checked_mul : goal.returns-in_err-checked_mul
returns-in_err-checked_mul c =
    let over : 2 ^ 64 ≤ c.loop-digit.value * 10 = omega (arith, c.in_err-checked_mul.ensures) in
    c.from_residual.ensures
    ∙ sym (number_of-over_tens c.args.width c.args.most c.args.text.now c.loop-digit.digit-index c.loop-digit.value c.loop-digit-test.true
    (sym c.if-not-is_ascii_digit.ensures.value) c.loop-digit.invariant (omega arith))

pub returns-in_err-value : goal.returns-in_err-value
returns-in_err-value c =
    let is_digit = sym c.if-not-is_ascii_digit.ensures.value in
    let digit = digit-back (get_or c.args.text.now c.loop-digit.digit-index 0) is_digit in
    let tens : c.in_ok-checked_mul.field-0 ≡ c.loop-digit.value * 10 = search rules in
    let over : 2 ^ 64 ≤ c.loop-digit.value * 10 + (get_or c.args.text.now c.loop-digit.digit-index 0 - 48) = omega (arith, c.in_err-value.ensures) in
    c.from_residual-in_err-value.ensures
    ∙ sym (number_of-over c.args.width c.args.most c.args.text.now c.loop-digit.digit-index c.loop-digit.value (get_or c.args.text.now c.loop-digit.digit-index 0 - 48) c.loop-digit-test.true
    is_digit c.loop-digit.invariant digit (omega arith))

pub loop-digit-preserved : goal.loop-digit-preserved
loop-digit-preserved c =
    let is_digit = sym c.if-not-is_ascii_digit.ensures.value in
    let digit = digit-back (get_or c.args.text.now c.loop-digit.digit-index 0) is_digit in
    let tens : c.in_ok-checked_mul.field-0 ≡ c.loop-digit.value * 10 = search rules in
    let value : c.in_ok-value.value ≡ c.loop-digit.value * 10 + (get_or c.args.text.now c.loop-digit.digit-index 0 - 48) = search rules in
    rw value (reads-more c.args.text.now c.loop-digit.digit-index c.loop-digit.value (get_or c.args.text.now c.loop-digit.digit-index 0 - 48) c.loop-digit-test.true is_digit c.loop-digit.invariant digit)

pub returns-then-value-most : goal.returns-then-value-most
returns-then-value-most c =
    sym (number_of-all c.args.width c.args.most c.args.text.now c.loop-digit.digit-index c.loop-digit.value
    c.requires.some c.requires.fits c.loop-digit-test.false c.loop-digit.invariant c.if-value-most.true)

pub returns-else-value-most : goal.returns-else-value-most
returns-else-value-most c =
    sym (number_of-all_great c.args.width c.args.most c.args.text.now c.loop-digit.digit-index c.loop-digit.value
    c.loop-digit-test.false c.loop-digit.invariant c.if-value-most.false)
