use Rattle.std.proofs.Common.{replicate}
use Rattle.run_text.specs.{Gathering.Printed, WearText.wear_text}
use Rattle.bank_shape.specs.declared.Role.TheVariants.{Free}
use Rattle.text_tests.proofs.printed.print_spares.Given as goal

-- the rows so far are printed
abbrev pub invariant-loop-line : goal.invariant-loop-line
invariant-loop-line g l = Printed (g.K.Sink.written l.fn.out) (g.K.Sink.written l.out) l.text (wear_text (replicate l.line (0, 0, Free)))
