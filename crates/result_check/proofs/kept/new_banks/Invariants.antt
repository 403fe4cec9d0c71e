use Rattle.result_check.proofs.Going.{AreNew}
use Rattle.result_check.proofs.kept.new_banks.Given as goal

abbrev pub invariant-loop : goal.invariant-loop
invariant-loop l = AreNew l.counter l.banks.items
