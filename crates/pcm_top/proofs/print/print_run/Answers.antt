use Rattle.std.proofs.Common.{refl, sym, ap, ◌∙◌, subst, arith}
use Rattle.std.specs.Prelude.{OnOk}
use Rattle.text_printer.proofs.Ending.{on_err, on_ok}
use Rattle.image_text.{specs.Sensing.{SensesRows, SensesSome}, proofs.Sensing.senses-none}
use Rattle.right_images.specs.Saving.{saved_of}
use Rattle.module_prints.specs.Images.{WritesRows, kept_in}
use Rattle.pcm_top.{specs.Images.senses_for, proofs.Saving.{image-text, no-image, senses-nothing}, proofs.Worn.wear-text}
use Rattle.pcm_top.proofs.print.print_run.Goals as goal

pub returns-in-Wear-clause-ok : goal.returns-in-Wear-clause-ok
returns-in-Wear-clause-ok g c =
    on_ok c.print_wear.result _ _ c.print_wear.ensures.ok
    (λ report ends are right roles.
    wear-text g.row.E c.args.pcm.now (g.A.CellArray.state c.args.array.now) c.args.events.now c.args.results.now c.args.job.now.print _ c.in-Wear.is report ends are roles)

pub returns-in-Wear-clause-prefix : goal.returns-in-Wear-clause-prefix
returns-in-Wear-clause-prefix g c =
    on_err c.print_wear.result _ _ c.print_wear.ensures.prefix
    (λ report ends are right roles.
    wear-text g.row.E c.args.pcm.now (g.A.CellArray.state c.args.array.now) c.args.events.now c.args.results.now c.args.job.now.print _ c.in-Wear.is report ends are roles)

pub returns-in-Results-clause-sensed : goal.returns-in-Results-clause-sensed
returns-in-Results-clause-sensed g c = (0, omega arith, senses-none (g.A.CellArray.state c.args.array.now))

pub returns-in-Results-clause-all : goal.returns-in-Results-clause-all
returns-in-Results-clause-all g c = senses-nothing c.print_results.result c.args.job.now.print (g.A.CellArray.state c.args.array.now) (λ lines. ap (λ p. senses_for p lines) c.in-Results.is)

pub returns-in-Results-clause-part : goal.returns-in-Results-clause-part
returns-in-Results-clause-part g c = no-image c.print_results.result c.args.job.now.print _ (λ is. absurd (cc (sym is ∙ c.in-Results.is)))

pub returns-in-Results-clause-untouched : goal.returns-in-Results-clause-untouched
returns-in-Results-clause-untouched g c = λ other. refl

pub returns-in-Summary-clause-sensed : goal.returns-in-Summary-clause-sensed
returns-in-Summary-clause-sensed g c = (0, omega arith, senses-none (g.A.CellArray.state c.args.array.now))

pub returns-in-Summary-clause-all : goal.returns-in-Summary-clause-all
returns-in-Summary-clause-all g c = senses-nothing c.print_counts.result c.args.job.now.print (g.A.CellArray.state c.args.array.now) (λ lines. ap (λ p. senses_for p lines) c.in-Summary.is)

pub returns-in-Summary-clause-part : goal.returns-in-Summary-clause-part
returns-in-Summary-clause-part g c = no-image c.print_counts.result c.args.job.now.print _ (λ is. absurd (cc (sym is ∙ c.in-Summary.is)))

pub returns-in-Summary-clause-untouched : goal.returns-in-Summary-clause-untouched
returns-in-Summary-clause-untouched g c = λ other. refl

pub returns-in-Wear-clause-sensed : goal.returns-in-Wear-clause-sensed
returns-in-Wear-clause-sensed g c = (0, omega arith, senses-none (g.A.CellArray.state c.args.array.now))

pub returns-in-Wear-clause-all : goal.returns-in-Wear-clause-all
returns-in-Wear-clause-all g c = senses-nothing c.print_wear.result c.args.job.now.print (g.A.CellArray.state c.args.array.now) (λ lines. ap (λ p. senses_for p lines) c.in-Wear.is)

pub returns-in-Wear-clause-part : goal.returns-in-Wear-clause-part
returns-in-Wear-clause-part g c = no-image c.print_wear.result c.args.job.now.print _ (λ is. absurd (cc (sym is ∙ c.in-Wear.is)))

pub returns-in-Wear-clause-untouched : goal.returns-in-Wear-clause-untouched
returns-in-Wear-clause-untouched g c = λ other. refl

pub returns-in-Image-clause-ok : goal.returns-in-Image-clause-ok
returns-in-Image-clause-ok g c =
    on_ok c.print_image.result _ _ c.print_image.ensures.ok
    (image-text c.images_are_of_their_runs.ensures c.args.pcm.now c.args.job.now.seed (g.A.CellArray.state c.args.array.now) (g.A.CellArray.state c.print_image.new.array) c.args.events.now c.args.results.now c.args.job.now.print _ c.in-Image.is
    c.requires.may_print.seed (omega arith) c.requires.may_print.shape c.requires.may_print.image.small c.requires.may_print.played c.print_image.ensures.sensed.0 c.print_image.ensures.sensed.2.since)

pub returns-in-Image-clause-prefix : goal.returns-in-Image-clause-prefix
returns-in-Image-clause-prefix g c =
    on_err c.print_image.result _ _ c.print_image.ensures.prefix
    (image-text c.images_are_of_their_runs.ensures c.args.pcm.now c.args.job.now.seed (g.A.CellArray.state c.args.array.now) (g.A.CellArray.state c.print_image.new.array) c.args.events.now c.args.results.now c.args.job.now.print _ c.in-Image.is
    c.requires.may_print.seed (omega arith) c.requires.may_print.shape c.requires.may_print.image.small c.requires.may_print.played c.print_image.ensures.sensed.0 c.print_image.ensures.sensed.2.since)

pub returns-in-Image-clause-sensed : goal.returns-in-Image-clause-sensed
returns-in-Image-clause-sensed g c =
    let first = g.A.CellArray.state c.args.array.now in
    subst (λ p. SensesSome (senses_for p first.lines) first (g.A.CellArray.state c.print_image.new.array)) (sym c.in-Image.is) c.print_image.ensures.sensed

pub returns-in-Image-clause-part : goal.returns-in-Image-clause-part
returns-in-Image-clause-part g c =
    on_err c.print_image.result _ _ c.print_image.ensures.part
    (λ part is.
    subst (λ seed. WritesRows (g.A.CellArray.state c.print_image.new.array) (saved_of c.args.pcm.now.shape seed (kept_in c.args.pcm.now) (g.A.CellArray.state c.args.array.now)) (g.K.Sink.written c.args.out.now) (g.K.Sink.written c.print_image.new.out)) c.requires.may_print.seed part)

pub returns-in-Image-clause-all : goal.returns-in-Image-clause-all
returns-in-Image-clause-all g c =
    let first = g.A.CellArray.state c.args.array.now in
    subst (λ p. OnOk c.print_image.result (SensesRows (senses_for p first.lines) first (g.A.CellArray.state c.print_image.new.array))) (sym c.in-Image.is) c.print_image.ensures.all

pub returns-in-Image-clause-untouched : goal.returns-in-Image-clause-untouched
returns-in-Image-clause-untouched g c = λ other. absurd (other c.in-Image.is)
