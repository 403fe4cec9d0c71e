use Rattle.std.proofs.Common.{◌∙◌, ap, refl, replicate, arith}
use Rattle.result_rows.specs.Table.{with_outcome}
use Rattle.text_tests.proofs.Timing.{two_checkable}
use Rattle.text_tests.proofs.verdicts.verdict_on.Goals as goal

pub check-requires : goal.check-requires
check-requires c = (
  omega arith,
  (
    omega arith,
    (
      omega arith,
      two_checkable 64 (replicate 64 255) c.args.written c.args.read c.set-2.new.self _ refl
          (c.set-2.ensures ∙ ap (λ t. with_outcome t 2 c.args.read) (c.set.ensures ∙ ap (λ t. with_outcome t 1 c.args.written) c.in_ok-results.ensures))
          c.requires.written c.requires.read (record { some_read = omega arith; few_read = omega arith; few_iter = omega arith; few_steps = omega arith; few_spares = omega arith }),
    ),
  ),
)
