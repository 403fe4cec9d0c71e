use Rattle.std.proofs.Common.{◌∙◌, refl, sym, ap, subst, arith}
use Rattle.std.specs.{Io.KnownBytes.Appends, Prelude.OnOk}
use Rattle.pcm_io.{specs.Giving.AppendsPrefix, proofs.ByteLemmas.Appends-nothing}
use Rattle.text_printer.proofs.Ending.{on_err, on_ok}
use Rattle.right_images.specs.Saving.{saved_of}
use Rattle.image_text.{specs.Sensing.{SensesRows, SensesSome}, proofs.Sensing.senses-none}
use Rattle.module_prints.specs.{Images.kept_in, WearReports.cells_at}
use Rattle.stream_words.specs.declared.job.StreamPrint.TheVariants.{Wear, Lines}
use Rattle.stream_words.specs.declared.job.Skip.TheVariants as skip
use Rattle.stream_top.specs.Leaving.{WritesRowsOf, senses_for}
use Rattle.stream_top.proofs.EndText.{energy-closes, image-closes, lines-closes, map-closes, no-image, nothing-closes, senses-nothing, snapshots-close, summary-bytes}
use Rattle.stream_top.proofs.EndText.{summary-closes, wear-closes}
use Rattle.stream_top.proofs.closing.print_closing.Goals as goal

pub returns-in-Rows-clause-ok : goal.returns-in-Rows-clause-ok
returns-in-Rows-clause-ok g c =
    nothing-closes c.args.pcm.now (g.A.CellArray.state c.args.array.now) (cells_at g.row.E (g.A.CellArray.state c.args.array.now) (g.A.TellsCells.changes c.args.array.now)) c.args.rows c.args.counts.now c.args.job.now.print
    (λ whole. Appends (g.K.Sink.written c.args.out.now) (g.K.Sink.written c.args.out.now) whole) c.in-Rows.field-0 c.in-Rows.is (Appends-nothing (g.K.Sink.written c.args.out.now))

pub returns-in-Rows-clause-sensed : goal.returns-in-Rows-clause-sensed
returns-in-Rows-clause-sensed g c = (0, omega arith, senses-none (g.A.CellArray.state c.args.array.now))

pub returns-in-Rows-clause-all : goal.returns-in-Rows-clause-all
returns-in-Rows-clause-all g c =
    let array = g.A.CellArray.state c.args.array.now in
    subst (λ p. SensesRows (senses_for p array.lines) array array) (sym c.in-Rows.is) (senses-none array)

pub returns-in-Rows-clause-untouched : goal.returns-in-Rows-clause-untouched
returns-in-Rows-clause-untouched g c = λ other. refl

pub returns-in-Snapshots-clause-ok : goal.returns-in-Snapshots-clause-ok
returns-in-Snapshots-clause-ok g c =
    snapshots-close c.args.pcm.now (g.A.CellArray.state c.args.array.now) (cells_at g.row.E (g.A.CellArray.state c.args.array.now) (g.A.TellsCells.changes c.args.array.now)) c.args.rows c.args.counts.now c.args.job.now.print
    (λ whole. Appends (g.K.Sink.written c.args.out.now) (g.K.Sink.written c.args.out.now) whole) c.in-Snapshots.field-0 c.in-Snapshots.is (Appends-nothing (g.K.Sink.written c.args.out.now))

pub returns-in-Snapshots-clause-sensed : goal.returns-in-Snapshots-clause-sensed
returns-in-Snapshots-clause-sensed g c = (0, omega arith, senses-none (g.A.CellArray.state c.args.array.now))

pub returns-in-Snapshots-clause-all : goal.returns-in-Snapshots-clause-all
returns-in-Snapshots-clause-all g c =
    let array = g.A.CellArray.state c.args.array.now in
    subst (λ p. SensesRows (senses_for p array.lines) array array) (sym c.in-Snapshots.is) (senses-none array)

pub returns-in-Snapshots-clause-untouched : goal.returns-in-Snapshots-clause-untouched
returns-in-Snapshots-clause-untouched g c = λ other. refl

pub returns-in-Summary-clause-ok : goal.returns-in-Summary-clause-ok
returns-in-Summary-clause-ok g c =
    on_ok c.print_rest.result _ _ c.print_rest.ensures.ok
    (summary-closes c.args.pcm.now (g.A.CellArray.state c.args.array.now) (cells_at g.row.E (g.A.CellArray.state c.args.array.now) (g.A.TellsCells.changes c.args.array.now)) c.args.rows c.args.counts.now c.args.job.now.print
    (λ whole. Appends (g.K.Sink.written c.args.out.now) (g.K.Sink.written c.print_rest.new.out) whole) c.in-Summary.is c.retired.result c.sum_pulses.result c.print_summary.new.text.bytes
    (summary-bytes c.args.text.now c.print_summary.new.text _ _ c.requires.room c.print_summary.ensures.after) c.sum_pulses.ensures c.retired.ensures)

pub returns-in-Summary-clause-prefix : goal.returns-in-Summary-clause-prefix
returns-in-Summary-clause-prefix g c =
    on_err c.print_rest.result _ _ c.print_rest.ensures.prefix
    (summary-closes c.args.pcm.now (g.A.CellArray.state c.args.array.now) (cells_at g.row.E (g.A.CellArray.state c.args.array.now) (g.A.TellsCells.changes c.args.array.now)) c.args.rows c.args.counts.now c.args.job.now.print
    (λ whole. AppendsPrefix (g.K.Sink.written c.args.out.now) (g.K.Sink.written c.print_rest.new.out) whole) c.in-Summary.is c.retired.result c.sum_pulses.result c.print_summary.new.text.bytes
    (summary-bytes c.args.text.now c.print_summary.new.text _ _ c.requires.room c.print_summary.ensures.after) c.sum_pulses.ensures c.retired.ensures)

pub returns-in-Summary-clause-part : goal.returns-in-Summary-clause-part
returns-in-Summary-clause-part g c = no-image c.print_rest.result c.args.job.now.print _ (λ is. absurd (cc (sym is ∙ c.in-Summary.is)))

pub returns-in-Summary-clause-sensed : goal.returns-in-Summary-clause-sensed
returns-in-Summary-clause-sensed g c = (0, omega arith, senses-none (g.A.CellArray.state c.args.array.now))

pub returns-in-Summary-clause-all : goal.returns-in-Summary-clause-all
returns-in-Summary-clause-all g c =
    let array = g.A.CellArray.state c.args.array.now in
    senses-nothing c.print_rest.result c.args.job.now.print array (ap (λ p. senses_for p array.lines) c.in-Summary.is)

pub returns-in-Summary-clause-untouched : goal.returns-in-Summary-clause-untouched
returns-in-Summary-clause-untouched g c = λ other. refl

pub returns-in-Wear-Nothing-clause-ok : goal.returns-in-Wear-Nothing-clause-ok
returns-in-Wear-Nothing-clause-ok g c =
    on_ok c.print_wear.result _ _ c.print_wear.ensures.ok
    (wear-closes c.args.pcm.now (g.A.CellArray.state c.args.array.now) (cells_at g.row.E (g.A.CellArray.state c.args.array.now) (g.A.TellsCells.changes c.args.array.now)) c.args.rows c.args.counts.now c.args.job.now.print
    (λ whole. Appends (g.K.Sink.written c.args.out.now) (g.K.Sink.written c.print_wear.new.out) whole) skip.Nothing (c.in-Wear-Nothing.is ∙ ap Wear (rw c.in-Wear-Nothing.is at c.in-Wear-Nothing.field-0-is)))

pub returns-in-Wear-Nothing-clause-prefix : goal.returns-in-Wear-Nothing-clause-prefix
returns-in-Wear-Nothing-clause-prefix g c =
    on_err c.print_wear.result _ _ c.print_wear.ensures.prefix
    (wear-closes c.args.pcm.now (g.A.CellArray.state c.args.array.now) (cells_at g.row.E (g.A.CellArray.state c.args.array.now) (g.A.TellsCells.changes c.args.array.now)) c.args.rows c.args.counts.now c.args.job.now.print
    (λ whole. AppendsPrefix (g.K.Sink.written c.args.out.now) (g.K.Sink.written c.print_wear.new.out) whole) skip.Nothing (c.in-Wear-Nothing.is ∙ ap Wear (rw c.in-Wear-Nothing.is at c.in-Wear-Nothing.field-0-is)))

pub returns-in-Wear-Nothing-clause-part : goal.returns-in-Wear-Nothing-clause-part
returns-in-Wear-Nothing-clause-part g c = no-image c.print_wear.result c.args.job.now.print _ (λ is. absurd (cc (sym is ∙ c.in-Wear-Nothing.is)))

pub returns-in-Wear-Nothing-clause-sensed : goal.returns-in-Wear-Nothing-clause-sensed
returns-in-Wear-Nothing-clause-sensed g c = (0, omega arith, senses-none (g.A.CellArray.state c.args.array.now))

pub returns-in-Wear-Nothing-clause-all : goal.returns-in-Wear-Nothing-clause-all
returns-in-Wear-Nothing-clause-all g c =
    let array = g.A.CellArray.state c.args.array.now in
    senses-nothing c.print_wear.result c.args.job.now.print array (ap (λ p. senses_for p array.lines) c.in-Wear-Nothing.is)

pub returns-in-Wear-Nothing-clause-untouched : goal.returns-in-Wear-Nothing-clause-untouched
returns-in-Wear-Nothing-clause-untouched g c = λ other. refl

pub returns-in-Wear-Unpulsed-clause-ok : goal.returns-in-Wear-Unpulsed-clause-ok
returns-in-Wear-Unpulsed-clause-ok g c =
    on_ok c.print_pulsed.result _ _ c.print_pulsed.ensures.ok
    (wear-closes c.args.pcm.now (g.A.CellArray.state c.args.array.now) (cells_at g.row.E (g.A.CellArray.state c.args.array.now) (g.A.TellsCells.changes c.args.array.now)) c.args.rows c.args.counts.now c.args.job.now.print
    (λ whole. Appends (g.K.Sink.written c.args.out.now) (g.K.Sink.written c.print_pulsed.new.out) whole) skip.Unpulsed (c.in-Wear-Unpulsed.is ∙ ap Wear (rw c.in-Wear-Unpulsed.is at c.in-Wear-Unpulsed.field-0-is)))

pub returns-in-Wear-Unpulsed-clause-prefix : goal.returns-in-Wear-Unpulsed-clause-prefix
returns-in-Wear-Unpulsed-clause-prefix g c =
    on_err c.print_pulsed.result _ _ c.print_pulsed.ensures.prefix
    (wear-closes c.args.pcm.now (g.A.CellArray.state c.args.array.now) (cells_at g.row.E (g.A.CellArray.state c.args.array.now) (g.A.TellsCells.changes c.args.array.now)) c.args.rows c.args.counts.now c.args.job.now.print
    (λ whole. AppendsPrefix (g.K.Sink.written c.args.out.now) (g.K.Sink.written c.print_pulsed.new.out) whole) skip.Unpulsed (c.in-Wear-Unpulsed.is ∙ ap Wear (rw c.in-Wear-Unpulsed.is at c.in-Wear-Unpulsed.field-0-is)))

pub returns-in-Wear-Unpulsed-clause-part : goal.returns-in-Wear-Unpulsed-clause-part
returns-in-Wear-Unpulsed-clause-part g c = no-image c.print_pulsed.result c.args.job.now.print _ (λ is. absurd (cc (sym is ∙ c.in-Wear-Unpulsed.is)))

pub returns-in-Wear-Unpulsed-clause-sensed : goal.returns-in-Wear-Unpulsed-clause-sensed
returns-in-Wear-Unpulsed-clause-sensed g c = (0, omega arith, senses-none (g.A.CellArray.state c.args.array.now))

pub returns-in-Wear-Unpulsed-clause-all : goal.returns-in-Wear-Unpulsed-clause-all
returns-in-Wear-Unpulsed-clause-all g c =
    let array = g.A.CellArray.state c.args.array.now in
    senses-nothing c.print_pulsed.result c.args.job.now.print array (ap (λ p. senses_for p array.lines) c.in-Wear-Unpulsed.is)

pub returns-in-Wear-Unpulsed-clause-untouched : goal.returns-in-Wear-Unpulsed-clause-untouched
returns-in-Wear-Unpulsed-clause-untouched g c = λ other. refl

pub returns-in-Lines-Nothing-clause-ok : goal.returns-in-Lines-Nothing-clause-ok
returns-in-Lines-Nothing-clause-ok g c =
    on_ok c.print_lines.result _ _ c.print_lines.ensures.ok
    (lines-closes c.args.pcm.now (g.A.CellArray.state c.args.array.now) (cells_at g.row.E (g.A.CellArray.state c.args.array.now) (g.A.TellsCells.changes c.args.array.now)) c.args.rows c.args.counts.now c.args.job.now.print
    (λ whole. Appends (g.K.Sink.written c.args.out.now) (g.K.Sink.written c.print_lines.new.out) whole) skip.Nothing (c.in-Lines-Nothing.is ∙ ap Lines (rw c.in-Lines-Nothing.is at c.in-Lines-Nothing.field-0-is)))

pub returns-in-Lines-Nothing-clause-prefix : goal.returns-in-Lines-Nothing-clause-prefix
returns-in-Lines-Nothing-clause-prefix g c =
    on_err c.print_lines.result _ _ c.print_lines.ensures.prefix
    (lines-closes c.args.pcm.now (g.A.CellArray.state c.args.array.now) (cells_at g.row.E (g.A.CellArray.state c.args.array.now) (g.A.TellsCells.changes c.args.array.now)) c.args.rows c.args.counts.now c.args.job.now.print
    (λ whole. AppendsPrefix (g.K.Sink.written c.args.out.now) (g.K.Sink.written c.print_lines.new.out) whole) skip.Nothing (c.in-Lines-Nothing.is ∙ ap Lines (rw c.in-Lines-Nothing.is at c.in-Lines-Nothing.field-0-is)))

pub returns-in-Lines-Nothing-clause-part : goal.returns-in-Lines-Nothing-clause-part
returns-in-Lines-Nothing-clause-part g c = no-image c.print_lines.result c.args.job.now.print _ (λ is. absurd (cc (sym is ∙ c.in-Lines-Nothing.is)))

pub returns-in-Lines-Nothing-clause-sensed : goal.returns-in-Lines-Nothing-clause-sensed
returns-in-Lines-Nothing-clause-sensed g c = (0, omega arith, senses-none (g.A.CellArray.state c.args.array.now))

pub returns-in-Lines-Nothing-clause-all : goal.returns-in-Lines-Nothing-clause-all
returns-in-Lines-Nothing-clause-all g c =
    let array = g.A.CellArray.state c.args.array.now in
    senses-nothing c.print_lines.result c.args.job.now.print array (ap (λ p. senses_for p array.lines) c.in-Lines-Nothing.is)

pub returns-in-Lines-Nothing-clause-untouched : goal.returns-in-Lines-Nothing-clause-untouched
returns-in-Lines-Nothing-clause-untouched g c = λ other. refl

pub returns-in-Lines-Unpulsed-clause-ok : goal.returns-in-Lines-Unpulsed-clause-ok
returns-in-Lines-Unpulsed-clause-ok g c =
    on_ok c.print_pulsed-in-Lines-Unpulsed.result _ _ c.print_pulsed-in-Lines-Unpulsed.ensures.ok
    (lines-closes c.args.pcm.now (g.A.CellArray.state c.args.array.now) (cells_at g.row.E (g.A.CellArray.state c.args.array.now) (g.A.TellsCells.changes c.args.array.now)) c.args.rows c.args.counts.now c.args.job.now.print
    (λ whole. Appends (g.K.Sink.written c.args.out.now) (g.K.Sink.written c.print_pulsed-in-Lines-Unpulsed.new.out) whole) skip.Unpulsed (c.in-Lines-Unpulsed.is ∙ ap Lines (rw c.in-Lines-Unpulsed.is at c.in-Lines-Unpulsed.field-0-is)))

pub returns-in-Lines-Unpulsed-clause-prefix : goal.returns-in-Lines-Unpulsed-clause-prefix
returns-in-Lines-Unpulsed-clause-prefix g c =
    on_err c.print_pulsed-in-Lines-Unpulsed.result _ _ c.print_pulsed-in-Lines-Unpulsed.ensures.prefix
    (lines-closes c.args.pcm.now (g.A.CellArray.state c.args.array.now) (cells_at g.row.E (g.A.CellArray.state c.args.array.now) (g.A.TellsCells.changes c.args.array.now)) c.args.rows c.args.counts.now c.args.job.now.print
    (λ whole. AppendsPrefix (g.K.Sink.written c.args.out.now) (g.K.Sink.written c.print_pulsed-in-Lines-Unpulsed.new.out) whole) skip.Unpulsed (c.in-Lines-Unpulsed.is ∙ ap Lines (rw c.in-Lines-Unpulsed.is at c.in-Lines-Unpulsed.field-0-is)))

pub returns-in-Lines-Unpulsed-clause-part : goal.returns-in-Lines-Unpulsed-clause-part
returns-in-Lines-Unpulsed-clause-part g c = no-image c.print_pulsed-in-Lines-Unpulsed.result c.args.job.now.print _ (λ is. absurd (cc (sym is ∙ c.in-Lines-Unpulsed.is)))

pub returns-in-Lines-Unpulsed-clause-sensed : goal.returns-in-Lines-Unpulsed-clause-sensed
returns-in-Lines-Unpulsed-clause-sensed g c = (0, omega arith, senses-none (g.A.CellArray.state c.args.array.now))

pub returns-in-Lines-Unpulsed-clause-all : goal.returns-in-Lines-Unpulsed-clause-all
returns-in-Lines-Unpulsed-clause-all g c =
    let array = g.A.CellArray.state c.args.array.now in
    senses-nothing c.print_pulsed-in-Lines-Unpulsed.result c.args.job.now.print array (ap (λ p. senses_for p array.lines) c.in-Lines-Unpulsed.is)

pub returns-in-Lines-Unpulsed-clause-untouched : goal.returns-in-Lines-Unpulsed-clause-untouched
returns-in-Lines-Unpulsed-clause-untouched g c = λ other. refl

pub returns-in-Map-clause-ok : goal.returns-in-Map-clause-ok
returns-in-Map-clause-ok g c =
    on_ok c.print_map.result _ _ c.print_map.ensures.ok
    (map-closes c.args.pcm.now (g.A.CellArray.state c.args.array.now) (cells_at g.row.E (g.A.CellArray.state c.args.array.now) (g.A.TellsCells.changes c.args.array.now)) c.args.rows c.args.counts.now c.args.job.now.print
    (λ whole. Appends (g.K.Sink.written c.args.out.now) (g.K.Sink.written c.print_map.new.out) whole) c.in-Map.is)

pub returns-in-Map-clause-prefix : goal.returns-in-Map-clause-prefix
returns-in-Map-clause-prefix g c =
    on_err c.print_map.result _ _ c.print_map.ensures.prefix
    (map-closes c.args.pcm.now (g.A.CellArray.state c.args.array.now) (cells_at g.row.E (g.A.CellArray.state c.args.array.now) (g.A.TellsCells.changes c.args.array.now)) c.args.rows c.args.counts.now c.args.job.now.print
    (λ whole. AppendsPrefix (g.K.Sink.written c.args.out.now) (g.K.Sink.written c.print_map.new.out) whole) c.in-Map.is)

pub returns-in-Map-clause-part : goal.returns-in-Map-clause-part
returns-in-Map-clause-part g c = no-image c.print_map.result c.args.job.now.print _ (λ is. absurd (cc (sym is ∙ c.in-Map.is)))

pub returns-in-Map-clause-sensed : goal.returns-in-Map-clause-sensed
returns-in-Map-clause-sensed g c = (0, omega arith, senses-none (g.A.CellArray.state c.args.array.now))

pub returns-in-Map-clause-all : goal.returns-in-Map-clause-all
returns-in-Map-clause-all g c =
    let array = g.A.CellArray.state c.args.array.now in
    senses-nothing c.print_map.result c.args.job.now.print array (ap (λ p. senses_for p array.lines) c.in-Map.is)

pub returns-in-Map-clause-untouched : goal.returns-in-Map-clause-untouched
returns-in-Map-clause-untouched g c = λ other. refl

pub returns-in-Energy-clause-ok : goal.returns-in-Energy-clause-ok
returns-in-Energy-clause-ok g c =
    on_ok c.print_energy.result _ _ c.print_energy.ensures.ok
    (energy-closes c.args.pcm.now (g.A.CellArray.state c.args.array.now) (cells_at g.row.E (g.A.CellArray.state c.args.array.now) (g.A.TellsCells.changes c.args.array.now)) c.args.rows c.args.counts.now c.args.job.now.print
    (λ whole. Appends (g.K.Sink.written c.args.out.now) (g.K.Sink.written c.print_energy.new.out) whole) c.in-Energy.is)

pub returns-in-Energy-clause-prefix : goal.returns-in-Energy-clause-prefix
returns-in-Energy-clause-prefix g c =
    on_err c.print_energy.result _ _ c.print_energy.ensures.prefix
    (energy-closes c.args.pcm.now (g.A.CellArray.state c.args.array.now) (cells_at g.row.E (g.A.CellArray.state c.args.array.now) (g.A.TellsCells.changes c.args.array.now)) c.args.rows c.args.counts.now c.args.job.now.print
    (λ whole. AppendsPrefix (g.K.Sink.written c.args.out.now) (g.K.Sink.written c.print_energy.new.out) whole) c.in-Energy.is)

pub returns-in-Energy-clause-part : goal.returns-in-Energy-clause-part
returns-in-Energy-clause-part g c = no-image c.print_energy.result c.args.job.now.print _ (λ is. absurd (cc (sym is ∙ c.in-Energy.is)))

pub returns-in-Energy-clause-sensed : goal.returns-in-Energy-clause-sensed
returns-in-Energy-clause-sensed g c = (0, omega arith, senses-none (g.A.CellArray.state c.args.array.now))

pub returns-in-Energy-clause-all : goal.returns-in-Energy-clause-all
returns-in-Energy-clause-all g c =
    let array = g.A.CellArray.state c.args.array.now in
    senses-nothing c.print_energy.result c.args.job.now.print array (ap (λ p. senses_for p array.lines) c.in-Energy.is)

pub returns-in-Energy-clause-untouched : goal.returns-in-Energy-clause-untouched
returns-in-Energy-clause-untouched g c = λ other. refl

pub returns-in-Image-clause-ok : goal.returns-in-Image-clause-ok
returns-in-Image-clause-ok g c =
    on_ok c.print_spelled.result _ _ c.print_spelled.ensures.ok
    (image-closes c.args.pcm.now (g.A.CellArray.state c.args.array.now) (cells_at g.row.E (g.A.CellArray.state c.args.array.now) (g.A.TellsCells.changes c.args.array.now)) c.args.rows c.args.counts.now c.args.job.now.print
    (λ whole. Appends (g.K.Sink.written c.args.out.now) (g.K.Sink.written c.print_spelled.new.out) whole) c.in-Image.is c.args.job.now.seed c.requires.seed)

pub returns-in-Image-clause-prefix : goal.returns-in-Image-clause-prefix
returns-in-Image-clause-prefix g c =
    on_err c.print_spelled.result _ _ c.print_spelled.ensures.prefix
    (image-closes c.args.pcm.now (g.A.CellArray.state c.args.array.now) (cells_at g.row.E (g.A.CellArray.state c.args.array.now) (g.A.TellsCells.changes c.args.array.now)) c.args.rows c.args.counts.now c.args.job.now.print
    (λ whole. AppendsPrefix (g.K.Sink.written c.args.out.now) (g.K.Sink.written c.print_spelled.new.out) whole) c.in-Image.is c.args.job.now.seed c.requires.seed)

pub returns-in-Image-clause-part : goal.returns-in-Image-clause-part
returns-in-Image-clause-part g c =
    on_err c.print_spelled.result _ _ c.print_spelled.ensures.part
    (λ part is.
    subst (λ seed. WritesRowsOf c.args.pcm.now.shape (g.A.CellArray.state c.print_spelled.new.array) (saved_of c.args.pcm.now.shape seed (kept_in c.args.pcm.now) (g.A.CellArray.state c.args.array.now)) (g.K.Sink.written c.args.out.now) (g.K.Sink.written c.print_spelled.new.out)) c.requires.seed part)

pub returns-in-Image-clause-sensed : goal.returns-in-Image-clause-sensed
returns-in-Image-clause-sensed g c =
    let first = g.A.CellArray.state c.args.array.now in
    subst (λ p. SensesSome (senses_for p first.lines) first (g.A.CellArray.state c.print_spelled.new.array)) (sym c.in-Image.is) c.print_spelled.ensures.sensed

pub returns-in-Image-clause-all : goal.returns-in-Image-clause-all
returns-in-Image-clause-all g c =
    let first = g.A.CellArray.state c.args.array.now in
    subst (λ p. OnOk c.print_spelled.result (SensesRows (senses_for p first.lines) first (g.A.CellArray.state c.print_spelled.new.array))) (sym c.in-Image.is) c.print_spelled.ensures.all

pub returns-in-Image-clause-untouched : goal.returns-in-Image-clause-untouched
returns-in-Image-clause-untouched g c = λ other. absurd (other c.in-Image.is)
