use Rattle.std.proofs.Common.{◌≡◌, ℕ, ◌+◌, ◌-◌, replicate, sym, ap, ◌∙◌, arith}
use Rattle.std.proofs.{lemmas.Grind.replicate_next, lemmas.List.{length-replicate, replicate-append-replicate}, lemmas.Result.on_err_weaker}
use Rattle.run_text.{specs.WearText.wear_text, proofs.Gathered.{part-same, printed-same}}
use Rattle.text_printer.proofs.Ending.{on_err_any}
use Rattle.bank_shape.specs.{declared.Role.Role, declared.Role.TheVariants.Free}
use Rattle.text_tests.proofs.printed.print_spares.Goals as goal

abbrev spare : ℕ × ℕ × Role
spare = (0, 0, Free)

pub loop-line-init : goal.loop-line-init
loop-line-init g c = c.print_wear_header.ensures.printed (g.K.Sink.written c.args.out.now)

pub loop-line-preserved : goal.loop-line-preserved
loop-line-preserved g c =
    printed-same _ _ c.print_wear_row.new.text _ _ (ap wear_text (sym (replicate_next c.loop-line.line spare)))
    (c.in_ok-print_wear_row.ensures.ok _ (replicate c.loop-line.line spare) (length-replicate c.loop-line.line spare) c.loop-line.invariant)

pub returns-in_err-print_wear_row-clause-prefix : goal.returns-in_err-print_wear_row-clause-prefix
returns-in_err-print_wear_row-clause-prefix g c =
    let line : ℕ = c.loop-line.line in
    let all : line + (c.args.lines - line) ≡ c.args.lines = omega arith in
    on_err_any c.from_residual.result _
    (part-same _ _ _ _ (ap wear_text (replicate-append-replicate line (c.args.lines - line) spare ∙ ap (λ n. replicate n spare) all))
    (c.in_err-print_wear_row.ensures.prefix _ (replicate line spare) (replicate (c.args.lines - line) spare) c.loop-line.invariant))

pub returns-clause-prefix : goal.returns-clause-prefix
returns-clause-prefix g c =
    let all : c.loop-line.line ≡ c.args.lines = omega arith in
    on_err_weaker c.print_rest.result
    (λ part. part _ _ (printed-same _ _ c.loop-line.text _ _ (ap (λ n. wear_text (replicate n spare)) all) c.loop-line.invariant)) c.print_rest.ensures.part
