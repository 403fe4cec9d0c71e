use Rattle.std.proofs.Common.{sym, arith}
use Rattle.std.proofs.lemmas.Bool.Decides.{nat_tests}
use Rattle.trace_reader.proofs.Numbers.{number_of-length}
use Rattle.trace_reader.proofs.decimal.number.Goals as goal

pub returns-then-is_empty : goal.returns-then-is_empty
returns-then-is_empty c = sym (number_of-length c.args.width c.args.most c.args.text.now (grind (arith, nat_tests)))
