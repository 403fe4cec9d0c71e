use Rattle.std.proofs.Common.{◌≡◌, ℕ, ◌+◌, refl, ap, ◌∙◌, arith}
use Rattle.bank_shape.specs.declared.BankShape.{BankShape}
use Rattle.power_recovery.specs.Kept.{KeptState}
use Rattle.bank_core.specs.Stepping.{with_kept}
use Rattle.register_laws.{specs.Items.{item_values, mark_values}, specs.Recovering.IsOnLines, proofs.Items.item-mark}
use Rattle.bank_timing.{specs.Reading.mark_back, proofs.Restoring.{restores-mark, passes-mark}, proofs.Sensing.item-read, proofs.Sizes.{bank_fits, kept_fits, regs_fits}}
use Rattle.bank_timing.proofs.{recovery.recover_mark.Given.Over, recovery.recover_mark.Goals.After-read_item-values}
use Rattle.bank_timing.proofs.recovery.recover_mark.Goals as goal

pub kept-requires : goal.kept-requires
kept-requires g c = (bank_fits c.requires.layout, kept_fits)

-- what was read is the mark
read : (g : Over) (c : After-read_item-values g) (kept : KeptState g.row.B) → c.args.bank.now.kept ≡ mark_back kept
    → IsOnLines {n = g.row.B} {m = g.row.M} {e = g.row.E} kept c.args.regs.now (g.A.CellArray.state c.args.array.now) → c.read_item-values.result ≡ mark_values kept.exhausted
read g c kept is on =
    let shape : c.shape-shape.result.now ≡ kept.shape =
    c.shape-shape.ensures.shape ∙ ap (λ (k : KeptState g.row.B). k.shape) c.kept.ensures.kept ∙ ap (λ (k : KeptState g.row.B). k.shape) is in
    let item : c.shape-shape.result.now.regions + c.shape-shape.result.now.spares ≡ kept.shape.regions + kept.shape.spares = ap (λ (s : BankShape). s.regions + s.spares) shape in
    c.read_item-values.ensures.values
    ∙ item-read kept c.args.regs.now (g.A.CellArray.state c.args.array.now) (g.A.CellArray.state c.args.array.now) (c.shape-shape.result.now.regions + c.shape-shape.result.now.spares) on
    (λ line. refl) (omega (arith, item))
    ∙ ap (λ (i : ℕ). item_values kept i) item
    ∙ item-mark kept

pub restore_mark-requires : goal.restore_mark-requires
restore_mark-requires g c =
    let kept = c.requires.readable.0 in
    let values = read g (goal.at.restore_mark-requires g c).After-read_item-values kept c.requires.readable.1 c.requires.readable.2 in (
      bank_fits c.requires.layout,
      (restores-mark kept (c.requires.readable.2).in_range c.args.bank.now.kept c.read_item-values.result c.requires.readable.1 values c.if-values-ne0.true).0,
    )

pub returns-then-values-ne0-clause-kept : goal.returns-then-values-ne0-clause-kept
returns-then-values-ne0-clause-kept g c = λ kept is on.
    let values = read g (goal.at.returns-then-values-ne0-clause-kept g c).After-read_item-values kept is on in
    c.restore_mark.ensures.bank ∙ ap (λ (k : KeptState g.row.B). with_kept c.args.bank.now k)
    (restores-mark kept on.in_range c.args.bank.now.kept c.read_item-values.result is values c.if-values-ne0.true).1

pub returns-else-values-ne0-clause-kept : goal.returns-else-values-ne0-clause-kept
returns-else-values-ne0-clause-kept g c = λ kept is on.
    let values = read g (goal.at.returns-else-values-ne0-clause-kept g c).After-read_item-values kept is on in
    ap (λ (k : KeptState g.row.B). with_kept c.args.bank.now k)
    (passes-mark kept on.in_range c.args.bank.now.kept c.read_item-values.result is values c.if-values-ne0.false)

pub shape-shape-requires : goal.shape-shape-requires
shape-shape-requires g c = kept_fits

pub overflow_add-shape : goal.overflow_add-shape
overflow_add-shape g c = grind arith

pub read_item-values-requires : goal.read_item-values-requires
read_item-values-requires g c = (regs_fits g.row.B g.row.M g.row.E c.requires.layout, grind arith)

pub bounds-values-0 : goal.bounds-values-0
bounds-values-0 g c = grind arith

pub returns-then-values-ne0-clause-touches : goal.returns-then-values-ne0-clause-touches
returns-then-values-ne0-clause-touches g c = grind arith

pub returns-else-values-ne0-clause-touches : goal.returns-else-values-ne0-clause-touches
returns-else-values-ne0-clause-touches g c = grind arith
