use Rattle.result_check.proofs.Going.{AreNewLines}
use Rattle.result_check.proofs.kept.new_lines.Given as goal

abbrev pub invariant-loop : goal.invariant-loop
invariant-loop g l = AreNewLines g.row.B l.counter l.lines.items
