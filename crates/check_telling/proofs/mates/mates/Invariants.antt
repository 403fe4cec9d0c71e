use Rattle.std.proofs.Common.{◌≡◌, []}
use Rattle.std.specs.Prelude.{drop}
use Rattle.check_verdict.specs.Verdicts.{bank_in}
use Rattle.check_telling.proofs.Banks.{mates_on}
use Rattle.check_telling.proofs.mates.mates.Given as goal

abbrev pub invariant-loop-i : goal.invariant-loop-i
invariant-loop-i g l = mates_on (bank_in l.banks) l.bank l.above l.i l.told.items (drop l.i l.rows) ≡ mates_on (bank_in l.banks) l.bank l.above 0 [] l.rows
