use Rattle.std.proofs.Common.{◌∙◌, refl, ap, arith}
use Rattle.module_shape.specs.declared.raw.RawShape.{RawShape}
use Rattle.bank_timing.proofs.Sizes.{timed_fits}
use Rattle.row_stream.proofs.Backlogs.{told-more, told-none}
use Rattle.row_stream.proofs.answering.tell_banks.Goals as goal

pub loop-bank-init : goal.loop-bank-init
loop-bank-init g c = record {
  told = told-none c.args.pcm.now c.args.tick c.args.out.now.told;
  rows = refl;
  snapshots = refl;
  prints = refl;
  printing = λ before first h. h;
  within = omega arith;
}

pub timed-requires : goal.timed-requires
timed-requires g c =
    (omega arith, (timed_fits g.row.B g.row.M g.row.E c.requires.layout, omega (arith, c.banks-bank-end.ensures.number, ap (λ (r : RawShape). r.banks) c.shape.ensures.shape)))

pub loop-bank-preserved : goal.loop-bank-preserved
loop-bank-preserved g c =
    let before = c.loop-bank.invariant in
    record {
      told = told-more c.args.pcm.now c.args.tick c.args.out.now.told c.loop-bank.bank c.timed.result.now c.look_at.result c.loop-bank.out.told c.bank.new.self.told c.timed.ensures c.look_at.ensures before.told c.bank.ensures.told;
      rows = c.bank.ensures.rows ∙ before.rows;
      snapshots = c.bank.ensures.snapshots ∙ before.snapshots;
      prints = c.bank.ensures.prints ∙ before.prints;
      printing = λ behind first h. c.bank.ensures.printing behind first (before.printing behind first h);
      within = omega (arith, c.banks-bank-end.ensures.number, ap (λ (r : RawShape). r.banks) c.shape.ensures.shape);
    }

pub look_at-requires : goal.look_at-requires
look_at-requires g c = (timed_fits g.row.B g.row.M g.row.E c.requires.layout, c.requires.layout)
