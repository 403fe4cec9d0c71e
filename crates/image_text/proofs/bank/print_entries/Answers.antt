use Rattle.std.proofs.Common.{◌<◌, ◌∙◌, length, map, sym, ap, arith}
use Rattle.std.{specs.Prelude.option_copied, proofs.Math.ListN.get_or-map, proofs.lemmas.List.length-map, proofs.lemmas.Option.get_or_from_slice_get}
use Rattle.pcm_image.specs.Spelling.{entry_bytes}
use Rattle.right_images.specs.Saving.{saved_entry}
use Rattle.text_printer.proofs.Printed.{prints-all, prints-next, prints-none}
use Rattle.image_text.proofs.bank.print_entries.Goals as goal

pub loop-index-init : goal.loop-index-init
loop-index-init g c = (prints-none g.K.Sink.written g.K.Sink.faults _, omega arith)

pub loop-index-preserved : goal.loop-index-preserved
loop-index-preserved g c =
    let entry = c.in-Some.entry.now in
    let few : c.loop-index.index < length (map saved_entry c.args.kept.now.entries) = omega (arith, length-map c.args.kept.now.entries saved_entry) in (
      prints-next g.K.Sink.written g.K.Sink.faults entry_bytes (map saved_entry c.args.kept.now.entries) _ _ _ c.loop-index.index (saved_entry entry) _ few
          (ap entry_bytes (c.entry_image.ensures ∙ sym (get_or-map saved_entry c.args.kept.now.entries c.loop-index.index entry
          ∙ ap saved_entry (get_or_from_slice_get c.args.kept.now.entries c.loop-index.index entry entry (sym c.at.ensures ∙ ap option_copied c.in-Some.is)))))
          c.loop-index.invariant.0 c.print_entry.ensures,
      omega (arith, few),
    )

pub returns : goal.returns
returns g c =
    prints-all g.K.Sink.written g.K.Sink.faults entry_bytes (map saved_entry c.args.kept.now.entries) _ _ c.loop-index.index
    (omega (arith, length-map c.args.kept.now.entries saved_entry)) c.loop-index.invariant.0
