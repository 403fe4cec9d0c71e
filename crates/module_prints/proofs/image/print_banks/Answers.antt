use Rattle.std.proofs.Common.{◌<◌, ◌∙◌, sym, ap, arith}
use Rattle.std.proofs.lemmas.List.FromFn.{get_or-map-range_with_len, length-map-range_with_len}
use Rattle.module_shape.specs.declared.raw.RawShape.{RawShape}
use Rattle.bank_timing.proofs.Sizes.{timed_fits, bank_fits}
use Rattle.pcm_image.specs.Spelling.{bank_bytes}
use Rattle.right_images.specs.Saving.{saved_bank, saved_banks}
use Rattle.module_prints.{specs.Images.kept_in, proofs.Clocks.clock-is}
use Rattle.module_prints.proofs.image.print_banks.Goals as goal
use Rattle.text_printer.proofs.Printed.{prints-all, prints-next, prints-none}

pub loop-bank-init : goal.loop-bank-init
loop-bank-init g c = (prints-none g.K.Sink.written g.K.Sink.faults _, omega arith)

pub timed-requires : goal.timed-requires
timed-requires g c =
    (omega arith, (timed_fits g.row.B g.row.M g.row.E c.requires.layout, omega (arith, c.banks-bank-end.ensures.number, ap (λ (r : RawShape). r.banks) c.shape.ensures.shape)))

pub bank-requires : goal.bank-requires
bank-requires g c = (timed_fits g.row.B g.row.M g.row.E c.requires.layout, bank_fits c.requires.layout)

pub kept-requires : goal.kept-requires
kept-requires g c = (bank_fits c.requires.layout, omega arith)

pub loop-bank-preserved : goal.loop-bank-preserved
loop-bank-preserved g c =
    let keeps = kept_in c.args.pcm.now in
    let banks = c.args.pcm.now.shape.banks in
    let few : c.loop-bank.bank < banks = omega (arith, c.banks-bank-end.ensures.number, ap (λ (r : RawShape). r.banks) c.shape.ensures.shape) in (
      prints-next g.K.Sink.written g.K.Sink.faults bank_bytes (saved_banks keeps banks) _ _ _ c.loop-bank.bank (saved_bank (keeps 0)) _
          (omega (arith, few, length-map-range_with_len (λ b. saved_bank (keeps b)) 0 banks))
          (ap bank_bytes (ap saved_bank (c.kept.ensures.kept ∙ ap (λ b. b.kept) c.bank.ensures ∙ ap (λ k. k.bank.kept) (clock-is c.args.pcm.now c.loop-bank.bank c.timed.result.now c.timed.ensures))
          ∙ sym (get_or-map-range_with_len (λ b. saved_bank (keeps b)) 0 banks c.loop-bank.bank c.loop-bank.bank (saved_bank (keeps 0)) few (omega arith))))
          c.loop-bank.invariant.0 c.print_bank.ensures,
      omega (arith, few),
    )

pub returns : goal.returns
returns g c =
    prints-all g.K.Sink.written g.K.Sink.faults bank_bytes (saved_banks (kept_in c.args.pcm.now) c.args.pcm.now.shape.banks) _ _ c.loop-bank.bank
    (omega (
      arith,
      length-map-range_with_len (λ b. saved_bank (kept_in c.args.pcm.now b)) 0 c.args.pcm.now.shape.banks,
      c.banks-bank-end.ensures.number,
      ap (λ (r : RawShape). r.banks) c.shape.ensures.shape,
    ))
    c.loop-bank.invariant.0
