use Rattle.result_check.proofs.Keeping.{IsCutTo}
use Rattle.result_check.proofs.kept.cut_all.Given as goal

abbrev pub invariant-loop-bank : goal.invariant-loop-bank
invariant-loop-bank l = IsCutTo l.tick l.bank l.fn.banks.items l.banks.items
