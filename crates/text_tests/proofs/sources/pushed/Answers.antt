use Rattle.std.proofs.Common.{arith, lit<, ◌≤◌, length}
use Rattle.std.{specs.Fmt.decimal, proofs.lemmas.Fmt.length-decimal-le, proofs.lemmas.Grind.common_steps}
use Rattle.text_tests.proofs.sources.pushed.Goals as goal

pub push_number-requires : goal.push_number-requires
push_number-requires c =
    let short : length (decimal 17) ≤ 2 = length-decimal-le 2 17 (lit< tt) (lit< tt) (lit< tt) in
    grind (arith, common_steps, short)
