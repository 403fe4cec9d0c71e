use Rattle.std.proofs.Common.{◌≡◌, ℕ, ◌+◌, ◌<◌, ◌∷◌, ◌++◌, [], List, None, false, refl, sym, ap, subst, ◌∙◌, arith, add-one}
use Rattle.bank_shape.specs.declared.BankShape.{BankShape}
use Rattle.bank_model.{specs.Changes.numbers_from, specs.Touching.Touches, proofs.Touched.{touches-both, touches-nothing}}
use Rattle.power_recovery.specs.Kept.{KeptState}
use Rattle.bank_invariant.specs.State.{BankState}
use Rattle.bank_core.specs.Stepping.{with_kept}
use Rattle.register_laws.{specs.Recovering.IsReadable, proofs.Items.item-region}
use Rattle.bank_timing.{specs.Reading.regions_back, proofs.Restoring.{RestoresRegion, restores-region, regions-all}, proofs.Sensing.{item-read, numbers-more}}
use Rattle.bank_timing.proofs.{Sizes.{bank_fits, kept_fits, regs_fits}, recovery.recover_regions.Given.Over, recovery.recover_regions.Goals.After-read_item-values}
use Rattle.bank_timing.proofs.recovery.recover_regions.Goals as goal

pub kept-requires : goal.kept-requires
kept-requires g c = (bank_fits c.requires.layout, kept_fits)

-- the region is restored from what was read
restores : (g : Over) (c : After-read_item-values g) (kept : KeptState g.row.B)
    → (readable : IsReadable {n = g.row.B} {m = g.row.M} {e = g.row.E} kept c.args.bank.now.kept c.args.regs.now (g.A.CellArray.state c.args.array.now))
    → RestoresRegion kept readable.lines.in_range c.loop-i.bank.kept c.loop-i.i c.read_item-values.result
restores g c kept readable =
    let on = readable.lines in
    let shape : c.shape-shape.result.now ≡ kept.shape =
    c.shape-shape.ensures.shape ∙ ap (λ (k : KeptState g.row.B). k.shape) c.kept.ensures.kept ∙ ap (λ (k : KeptState g.row.B). k.shape) readable.stripped in
    let below : c.loop-i.i < kept.shape.regions = subst (λ (s : BankShape). c.loop-i.i < s.regions) shape c.loop-i-test.true in
    restores-region kept readable.lines.in_range c.loop-i.bank.kept c.loop-i.i c.read_item-values.result
    (ap (λ (b : BankState g.row.B g.row.M g.row.E). b.kept) (c.loop-i.invariant.0 kept readable)) below
    (c.read_item-values.ensures.values
    ∙ item-read kept c.args.regs.now (g.A.CellArray.state c.args.array.now) (g.A.CellArray.state c.loop-i.array) c.loop-i.i on
    (λ line. c.loop-i.invariant.1.others line refl) (omega (arith, below))
    ∙ item-region kept c.loop-i.i below)

-- the shape is the one that the bank has
same_shape : (g : Over) (c : After-read_item-values g) → c.shape-shape.result.now ≡ c.loop-i.bank.kept.shape
same_shape g c =
    let readable = c.requires.readable.1 in
    c.shape-shape.ensures.shape ∙ ap (λ (k : KeptState g.row.B). k.shape) c.kept.ensures.kept ∙ ap (λ (k : KeptState g.row.B). k.shape) readable.stripped
    ∙ sym (ap (λ (b : BankState g.row.B g.row.M g.row.E). b.kept.shape) (c.loop-i.invariant.0 c.requires.readable.0 readable))

pub overflow_sub-shape : goal.overflow_sub-shape
overflow_sub-shape g c =
    let after = (goal.at.overflow_sub-shape g c).After-read_item-values in
    let step = restores g after c.requires.readable.0 c.requires.readable.1 in
    let same : c.shape-shape.result.now ≡ c.loop-i.bank.kept.shape = same_shape g after in
    omega (arith, step.moved, ap (λ (s : BankShape). s.lines) same)

pub restore_region-requires : goal.restore_region-requires
restore_region-requires g c =
    let after = (goal.at.restore_region-requires g c).After-read_item-values in
    let step = restores g after c.requires.readable.0 c.requires.readable.1 in
    let same : c.shape-shape.result.now ≡ c.loop-i.bank.kept.shape = same_shape g after in (
      bank_fits c.requires.layout,
      (step.exists, (step.start, (rw same step.gap, (step.counter, rw same step.one_due)))),
    )

pub loop-i-preserved : goal.loop-i-preserved
loop-i-preserved g c =
    let after = (goal.at.loop-i-preserved g c).After-read_item-values in
    let same : c.shape-shape.result.now ≡ c.loop-i.bank.kept.shape = same_shape g after in
    let more : numbers_from c.args.regs.now.base c.loop-i.i ++ (c.args.regs.now.base + c.loop-i.i) ∷ [] ≡ numbers_from c.args.regs.now.base (c.loop-i.i + 1) =
    numbers-more c.args.regs.now.base c.loop-i.i ∙ ap (λ (k : ℕ). numbers_from c.args.regs.now.base k) (sym (add-one c.loop-i.i)) in (
      λ kept readable.
          let step = restores g after kept readable in
          c.restore_region.ensures.bank
          ∙ ap (λ (k : KeptState g.row.B). with_kept c.loop-i.bank k) (rw same step.leaves)
          ∙ ap (λ (b : BankState g.row.B g.row.M g.row.E). with_kept b (regions_back (c.loop-i.i + 1) kept)) (c.loop-i.invariant.0 kept readable),
      subst (λ (xs : List ℕ). Touches c.args.tick xs None false (g.A.CellArray.state c.args.array.now) (g.A.CellArray.state c.read_item-values.new.array)) more
          (touches-both c.args.tick _ _ (g.A.CellArray.state c.args.array.now) (g.A.CellArray.state c.loop-i.array) (g.A.CellArray.state c.read_item-values.new.array)
          c.loop-i.invariant.1 c.read_item-values.ensures.touches),
    )

-- in the end all regions are
pub returns-clause-kept : goal.returns-clause-kept
returns-clause-kept g c = λ kept readable.
    let shape : c.shape-shape.result.now ≡ kept.shape =
    c.shape-shape.ensures.shape ∙ ap (λ (k : KeptState g.row.B). k.shape) c.kept.ensures.kept ∙ ap (λ (k : KeptState g.row.B). k.shape) readable.stripped in
    let end : c.loop-i.i ≡ kept.shape.regions = omega (arith, c.loop-i-test.false, c.loop-i.auto.i-end, ap (λ (s : BankShape). s.regions) shape) in
    c.loop-i.invariant.0 kept readable ∙ ap (λ (k : ℕ). with_kept c.args.bank.now (regions_back k kept)) end
    ∙ ap (λ (k : KeptState g.row.B). with_kept c.args.bank.now k) (regions-all kept readable.lines.in_range)

pub returns-clause-touches : goal.returns-clause-touches
returns-clause-touches g c =
    let shape : c.shape-shape.result.now ≡ c.args.bank.now.kept.shape = c.shape-shape.ensures.shape ∙ ap (λ (k : KeptState g.row.B). k.shape) c.kept.ensures.kept in
    let end : c.loop-i.i ≡ c.args.bank.now.kept.shape.regions = omega (arith, c.loop-i-test.false, c.loop-i.auto.i-end, ap (λ (s : BankShape). s.regions) shape) in
    subst (λ (k : ℕ). Touches c.args.tick (numbers_from c.args.regs.now.base k) None false (g.A.CellArray.state c.args.array.now) (g.A.CellArray.state c.loop-i.array)) end c.loop-i.invariant.1

pub shape-shape-requires : goal.shape-shape-requires
shape-shape-requires g c = kept_fits

pub loop-i-init : goal.loop-i-init
loop-i-init g c = (
  λ kept readable. ap (λ (k : KeptState g.row.B). with_kept c.args.bank.now k) readable.stripped,
  touches-nothing c.args.tick _ _ refl,
)

pub read_item-values-requires : goal.read_item-values-requires
read_item-values-requires g c = (regs_fits g.row.B g.row.M g.row.E c.requires.layout, grind arith)

pub bounds-values-0 : goal.bounds-values-0
bounds-values-0 g c = grind arith

pub bounds-values-1 : goal.bounds-values-1
bounds-values-1 g c = grind arith

pub bounds-values-2 : goal.bounds-values-2
bounds-values-2 g c = grind arith

pub loop-i-smaller : goal.loop-i-smaller
loop-i-smaller g c = grind arith
