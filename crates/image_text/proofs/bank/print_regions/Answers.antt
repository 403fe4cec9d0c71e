use Rattle.std.proofs.Common.{◌<◌, ◌∙◌, length, map, sym, ap, arith}
use Rattle.std.proofs.{Math.ListN.get_or-map, lemmas.List.length-map}
use Rattle.bank_shape.specs.declared.BankShape.{BankShape}
use Rattle.power_recovery.specs.Kept.{no_region}
use Rattle.pcm_image.specs.Spelling.{region_bytes}
use Rattle.right_images.specs.Saving.{saved_region}
use Rattle.text_printer.proofs.Printed.{prints-all, prints-next, prints-none}
use Rattle.image_text.proofs.bank.print_regions.Goals as goal

pub loop-region-init : goal.loop-region-init
loop-region-init g c = (prints-none g.K.Sink.written g.K.Sink.faults _, omega arith)

pub loop-region-preserved : goal.loop-region-preserved
loop-region-preserved g c =
    let few : c.loop-region.region < length (map saved_region c.args.kept.now.regions) =
    omega (arith, length-map c.args.kept.now.regions saved_region, c.shape.ensures.in_range.all_regions, ap (λ (t : BankShape). t.regions) c.shape.ensures.shape) in (
      prints-next g.K.Sink.written g.K.Sink.faults region_bytes (map saved_region c.args.kept.now.regions) _ _ _ c.loop-region.region (saved_region no_region) _ few
          (ap region_bytes (c.region_image.ensures.is ∙ ap saved_region c.region.ensures.region ∙ sym (get_or-map saved_region c.args.kept.now.regions c.loop-region.region no_region)))
          c.loop-region.invariant.0 c.print_region.ensures,
      omega (arith, few),
    )

pub returns : goal.returns
returns g c =
    prints-all g.K.Sink.written g.K.Sink.faults region_bytes (map saved_region c.args.kept.now.regions) _ _ c.loop-region.region
    (omega (arith, length-map c.args.kept.now.regions saved_region, c.shape.ensures.in_range.all_regions, ap (λ (t : BankShape). t.regions) c.shape.ensures.shape)) c.loop-region.invariant.0
