use Rattle.std.proofs.Common.{refl, arith}
use Rattle.row_rules.specs.{Answers.stored_by, Queueing.unstored}
use Rattle.check_telling.{specs.Steps.with_given, proofs.Folds.fold_all}
use Rattle.check_telling.proofs.reads.unstored.Goals as goal

pub returns : goal.returns
returns g c =
    fold_all {n = g.row.B} (unstored (stored_by c.args.tick) c.args.line) (with_given c.args.tick c.args.line) (λ q rows. refl)
    c.loop-one.one-index c.loop-one.found c.args.past.now (omega arith) c.loop-one.invariant
