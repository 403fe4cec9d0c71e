use Rattle.check_reader.proofs.Whole.{HasRead}
use Rattle.check_reader.proofs.results.parse_results.Given as goal

-- the rows so far were read
abbrev pub invariant-rows : goal.invariant-rows
invariant-rows g l = HasRead g.row.B l.of l.initial.rest l.rest l.results l.i
