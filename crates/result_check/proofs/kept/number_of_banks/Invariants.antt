use Rattle.std.proofs.Common.{◌≡◌}
use Rattle.std.specs.Prelude.{drop}
use Rattle.result_check.specs.Keeping.{banks_from}
use Rattle.result_check.proofs.kept.number_of_banks.Given as goal

abbrev pub invariant-loop-bank : goal.invariant-loop-bank
invariant-loop-bank l = banks_from l.number (drop l.bank-index l.banks) ≡ banks_from 0 l.banks
