use Rattle.std.proofs.Common.{sym, arith}
use Rattle.seeded_lines.proofs.{PlaneLemmas.digit_few, YoungLemmas.changes-is}
use Rattle.seeded_lines.proofs.young.Young.changes.Goals as goal

pub overflow_mul-result : goal.overflow_mul-result
overflow_mul-result g c = omega (arith, c.get-2.ensures, digit_few c.args.self.now.middle c.args.number)

pub overflow_add-result : goal.overflow_add-result
overflow_add-result g c = omega (arith, c.get.ensures, digit_few c.args.self.now.low c.args.number, c.get-2.ensures, digit_few c.args.self.now.middle c.args.number)

pub overflow_mul-result-2 : goal.overflow_mul-result-2
overflow_mul-result-2 g c = omega (arith, c.get-3.ensures, digit_few c.args.self.now.high c.args.number)

pub overflow_add-result-2 : goal.overflow_add-result-2
overflow_add-result-2 g c =
    omega (arith, c.get.ensures, digit_few c.args.self.now.low c.args.number, c.get-2.ensures, digit_few c.args.self.now.middle c.args.number, c.get-3.ensures, digit_few c.args.self.now.high c.args.number)

pub returns : goal.returns
returns g c = rw (c.get.ensures, c.get-2.ensures, c.get-3.ensures) (sym (changes-is c.args.self.now c.args.number))
