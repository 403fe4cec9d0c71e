use Rattle.std.proofs.Common.{◌≡◌, ℕ, ◌+◌, ◌<◌, ◌∷◌, ◌++◌, [], List, None, false, refl, sym, ap, subst, ◌∙◌, arith, add-one, slice_get}
use Rattle.bank_shape.specs.declared.BankShape.{BankShape}
use Rattle.bank_model.{specs.Changes.numbers_from, specs.Touching.Touches, proofs.Touched.touches-both}
use Rattle.power_recovery.specs.Kept.{KeptState}
use Rattle.bank_invariant.specs.State.{BankState}
use Rattle.bank_core.specs.Stepping.{with_kept}
use Rattle.register_laws.{specs.Items.{spare_values, item_values}, specs.Recovering.IsOnLines, proofs.Items.item-spare}
use Rattle.bank_timing.{specs.Reading.spares_back, proofs.Restoring.{restores-spare, passes-spare, spares-all}, proofs.Sensing.{item-read, numbers-more}}
use Rattle.bank_timing.proofs.{Sizes.{bank_fits, kept_fits, regs_fits}, recovery.recover_spares.Given.Over}
use Rattle.bank_timing.proofs.recovery.recover_spares.Goals.{After-read_item-values, then-values-ne0, else-values-ne0}
use Rattle.bank_timing.proofs.recovery.recover_spares.Goals as goal

pub kept-requires : goal.kept-requires
kept-requires g c = (bank_fits c.requires.layout, kept_fits)

-- what was read is the spare's
read : (g : Over) (c : After-read_item-values g) (kept : KeptState g.row.B) → c.args.bank.now.kept ≡ spares_back 0 kept
    → IsOnLines {n = g.row.B} {m = g.row.M} {e = g.row.E} kept c.args.regs.now (g.A.CellArray.state c.args.array.now)
    → c.read_item-values.result ≡ spare_values (slice_get kept.table.replaced c.loop-j.j)
read g c kept is on =
    let shape : c.shape-shape.result.now ≡ kept.shape =
    c.shape-shape.ensures.shape ∙ ap (λ (k : KeptState g.row.B). k.shape) c.kept.ensures.kept ∙ ap (λ (k : KeptState g.row.B). k.shape) is in
    let below : c.loop-j.j < kept.shape.spares = subst (λ (s : BankShape). c.loop-j.j < s.spares) shape c.loop-j-test.true in
    let item : c.shape-shape.result.now.regions + c.loop-j.j ≡ kept.shape.regions + c.loop-j.j = ap (λ (s : BankShape). s.regions + c.loop-j.j) shape in
    c.read_item-values.ensures.values
    ∙ item-read kept c.args.regs.now (g.A.CellArray.state c.args.array.now) (g.A.CellArray.state c.loop-j.array) (c.shape-shape.result.now.regions + c.loop-j.j) on
    (λ line. c.loop-j.invariant.1.others line refl) (omega (arith, item, below))
    ∙ ap (λ (i : ℕ). item_values kept i) item
    ∙ item-spare kept c.loop-j.j below

pub restore_spare-requires : goal.restore_spare-requires
restore_spare-requires g c =
    let kept = c.requires.readable.0 in
    let is = c.requires.readable.1 in
    let on = c.requires.readable.2 in
    let step = restores-spare kept on.in_range c.loop-j.bank.kept c.loop-j.j c.read_item-values.result
    (ap (λ (b : BankState g.row.B g.row.M g.row.E). b.kept) (c.loop-j.invariant.0 kept is on)) (read g (goal.at.restore_spare-requires g c).After-read_item-values kept is on) c.if-values-ne0.true in
    (bank_fits c.requires.layout, (step.exists, step.free))

pub loop-j-preserved : goal.loop-j-preserved
loop-j-preserved g c =
    let after = (goal.at.loop-j-preserved g c).After-read_item-values in
    let from : ℕ = c.args.regs.now.base + c.args.bank.now.kept.shape.regions in
    let place : c.args.regs.now.base + (c.shape-shape.result.now.regions + c.loop-j.j) ≡ from + c.loop-j.j =
    omega (arith, ap (λ (s : BankShape). s.regions) (c.shape-shape.ensures.shape ∙ ap (λ (k : KeptState g.row.B). k.shape) c.kept.ensures.kept)) in
    let more : numbers_from from c.loop-j.j ++ (c.args.regs.now.base + (c.shape-shape.result.now.regions + c.loop-j.j)) ∷ [] ≡ numbers_from from (c.loop-j.j + 1) =
    ap (λ (x : ℕ). numbers_from from c.loop-j.j ++ x ∷ []) place ∙ numbers-more from c.loop-j.j ∙ ap (λ (k : ℕ). numbers_from from k) (sym (add-one c.loop-j.j)) in (
      λ kept is on.
          let before = c.loop-j.invariant.0 kept is on in
          let now = ap (λ (b : BankState g.row.B g.row.M g.row.E). b.kept) before in
          let values = read g after kept is on in
          elim c.if-values-ne0.branch [
            | then-values-ne0 w ↦
                let step = restores-spare kept on.in_range c.loop-j.bank.kept c.loop-j.j c.read_item-values.result now values w.if-values-ne0.true in
                w.bank-is ∙ w.restore_spare.ensures.bank
                ∙ ap (λ (k : KeptState g.row.B). with_kept c.loop-j.bank k) step.leaves
                ∙ ap (λ (b : BankState g.row.B g.row.M g.row.E). with_kept b (spares_back (c.loop-j.j + 1) kept)) before
            | else-values-ne0 w ↦
                w.bank-is
                ∙ ap (λ (k : KeptState g.row.B). with_kept c.loop-j.bank k) (passes-spare kept on.in_range c.loop-j.bank.kept c.loop-j.j c.read_item-values.result now values w.if-values-ne0.false)
                ∙ ap (λ (b : BankState g.row.B g.row.M g.row.E). with_kept b (spares_back (c.loop-j.j + 1) kept)) before
          ],
      subst (λ (xs : List ℕ). Touches c.args.tick xs None false (g.A.CellArray.state c.args.array.now) (g.A.CellArray.state c.read_item-values.new.array)) more
          (touches-both c.args.tick _ _ (g.A.CellArray.state c.args.array.now) (g.A.CellArray.state c.loop-j.array) (g.A.CellArray.state c.read_item-values.new.array)
          c.loop-j.invariant.1 c.read_item-values.ensures.touches),
    )

-- in the end all spares are
pub returns-clause-kept : goal.returns-clause-kept
returns-clause-kept g c = λ kept is on.
    let shape : c.shape-shape.result.now ≡ kept.shape =
    c.shape-shape.ensures.shape ∙ ap (λ (k : KeptState g.row.B). k.shape) c.kept.ensures.kept ∙ ap (λ (k : KeptState g.row.B). k.shape) is in
    let end : c.loop-j.j ≡ kept.shape.spares = omega (arith, c.loop-j-test.false, c.loop-j.auto.j-end, ap (λ (s : BankShape). s.spares) shape) in
    c.loop-j.invariant.0 kept is on ∙ ap (λ (k : ℕ). with_kept c.args.bank.now (spares_back k kept)) end
    ∙ ap (λ (k : KeptState g.row.B). with_kept c.args.bank.now k) (spares-all kept on.in_range)

pub returns-clause-touches : goal.returns-clause-touches
returns-clause-touches g c =
    let shape : c.shape-shape.result.now ≡ c.args.bank.now.kept.shape = c.shape-shape.ensures.shape ∙ ap (λ (k : KeptState g.row.B). k.shape) c.kept.ensures.kept in
    let end : c.loop-j.j ≡ c.args.bank.now.kept.shape.spares = omega (arith, c.loop-j-test.false, c.loop-j.auto.j-end, ap (λ (s : BankShape). s.spares) shape) in
    subst (λ (k : ℕ). Touches c.args.tick (numbers_from (c.args.regs.now.base + c.args.bank.now.kept.shape.regions) k) None false (g.A.CellArray.state c.args.array.now) (g.A.CellArray.state c.loop-j.array)) end c.loop-j.invariant.1

pub shape-shape-requires : goal.shape-shape-requires
shape-shape-requires g c = kept_fits

pub overflow_add-shape : goal.overflow_add-shape
overflow_add-shape g c = grind arith

pub read_item-values-requires : goal.read_item-values-requires
read_item-values-requires g c = (regs_fits g.row.B g.row.M g.row.E c.requires.layout, grind arith)

pub bounds-values-0 : goal.bounds-values-0
bounds-values-0 g c = grind arith

pub bounds-values-0-then-values-ne0 : goal.bounds-values-0-then-values-ne0
bounds-values-0-then-values-ne0 g c = grind arith

pub overflow_sub-values : goal.overflow_sub-values
overflow_sub-values g c = grind arith

pub loop-j-smaller : goal.loop-j-smaller
loop-j-smaller g c = grind arith
