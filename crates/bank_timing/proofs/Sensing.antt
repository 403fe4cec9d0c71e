-- That all control lines are sensed, one after another, and what a sense of one reads.
use Rattle.std.proofs.Common.{◌≡◌, ℕ, ◌+◌, ◌<◌, false, List, [], ◌∷◌, ◌++◌, zero, suc, None, refl, sym, ap, subst, ◌∙◌, arith}
use Rattle.cell_rows.specs.Device.{ArrayState}
use Rattle.bank_shape.specs.{Shape.{controls_from, controls_of, if_array}, declared.BankShape.BankShape, declared.Home.Home, declared.Home.TheVariants.Guarded}
use Rattle.bank_model.{specs.Changes.{numbers_from, all_controls}, specs.Touching.Touches, proofs.Touched.{touches-both, touches-nothing}}
use Rattle.power_recovery.specs.Kept.{KeptState}
use Rattle.reg_lines.specs.Regs.{RegsState, values_held}
use Rattle.register_laws.{specs.Items.{items_of, item_values}, specs.Recovering.IsOnLines, proofs.Determining.all-items, proofs.Holding.{values-stay, read-same}}

-- a bank whose registers are guarded has no control line to sense
pub senses-none : {n m : ℕ} (tick : ℕ) (shape : BankShape) (array : ArrayState n m) → shape.home ≡ Guarded
    → Touches tick (all_controls shape) None false array array
senses-none tick shape array home =
    let count : Home → ℕ = λ at. if_array at (shape.regions + shape.spares + 1) in
    let none : all_controls shape ≡ [] = ap (λ (at : Home). numbers_from (controls_from shape) (count at)) home in
    subst (λ (xs : List ℕ). Touches tick xs None false array array) (sym none) (touches-nothing tick array array refl)

-- one number more
pub numbers-more : (from i : ℕ) → numbers_from from i ++ (from + i) ∷ [] ≡ numbers_from from (suc i)
numbers-more from zero = let same : from + 0 ≡ from = omega arith in ap (λ (x : ℕ). x ∷ []) same
numbers-more from (suc i) =
    let same : from + suc i ≡ (from + 1) + i = omega arith in
    ap (λ (x : ℕ). from ∷ (numbers_from (from + 1) i ++ x ∷ [])) same ∙ ap (λ (xs : List ℕ). from ∷ xs) (numbers-more (from + 1) i)

-- and so many more
pub numbers-both : (from a b : ℕ) → numbers_from from a ++ numbers_from (from + a) b ≡ numbers_from from (a + b)
numbers-both from zero b = let same : from + 0 ≡ from = omega arith in let none : 0 + b ≡ b = omega arith in
    ap (λ (x : ℕ). numbers_from x b) same ∙ ap (λ (k : ℕ). numbers_from from k) (sym none)
numbers-both from (suc a) b =
    let same : from + suc a ≡ (from + 1) + a = omega arith in
    let more : suc a + b ≡ suc (a + b) = omega arith in
    ap (λ (x : ℕ). from ∷ (numbers_from (from + 1) a ++ numbers_from x b)) same ∙ ap (λ (xs : List ℕ). from ∷ xs) (numbers-both (from + 1) a b) ∙ ap (λ (k : ℕ). numbers_from from k) (sym more)

module _ {n m e : ℕ} where
  -- every item has a control line
  pub item-exists : (kept : KeptState n) (regs : RegsState n m e) (array : ArrayState n m) (item : ℕ) → IsOnLines kept regs array → item < items_of kept.shape → item < regs.items
  item-exists kept regs array item on below =
      let all = all-items kept.shape _ on.home in
      omega (arith, below, all, on.own.items)

  -- which is read as its values, while the lines stay as they are
  pub item-read : (kept : KeptState n) (regs : RegsState n m e) (old now : ArrayState n m) (item : ℕ) → IsOnLines kept regs old → ((line : ℕ) → now.line line ≡ old.line line)
      → item < items_of kept.shape → values_held regs now item ≡ item_values kept item
  item-read kept regs old now item on same below =
      let all = all-items kept.shape _ on.home in
      values-stay regs.change item _ _ (λ other. read-same regs old now item (same (regs.base + item))) ∙ sym (on.values item (omega (arith, below, all)))

  -- senses leave all that is on the lines
  pub on-after : (kept : KeptState n) (regs : RegsState n m e) (tick : ℕ) (sensed : List ℕ) (old new : ArrayState n m) → IsOnLines kept regs old
      → Touches tick sensed None false old new → IsOnLines kept regs new
  on-after kept regs tick sensed old new on touches = record {
    home = on.home;
    in_range = on.in_range;
    own = on.own;
    exist = rw touches.lines on.exist;
    values = λ item below.
        on.values item below ∙ sym (values-stay regs.change item _ _ (λ other. read-same regs old new item (touches.others (regs.base + item) refl)));
  }

  -- the regions, the spares and the mark are all control lines
  all-sensed : (kept : KeptState n) (regs : RegsState n m e) (array : ArrayState n m) → IsOnLines kept regs array
      → (numbers_from regs.base kept.shape.regions ++ numbers_from (regs.base + kept.shape.regions) kept.shape.spares) ++ (regs.base + (kept.shape.regions + kept.shape.spares)) ∷ []
      ≡ all_controls kept.shape
  all-sensed kept regs array on =
      let all = all-items kept.shape _ on.home in
      let count : suc (kept.shape.regions + kept.shape.spares) ≡ controls_of kept.shape = omega (arith, all) in
      ap (λ (xs : List ℕ). xs ++ (regs.base + (kept.shape.regions + kept.shape.spares)) ∷ []) (numbers-both regs.base kept.shape.regions kept.shape.spares)
      ∙ numbers-more regs.base (kept.shape.regions + kept.shape.spares)
      ∙ ap (λ (k : ℕ). numbers_from regs.base k) count
      ∙ ap (λ (b : ℕ). numbers_from b (controls_of kept.shape)) on.own.base

  -- so all are sensed, one after the other
  pub touches-all : (kept : KeptState n) (regs : RegsState n m e) (first second third : BankShape) (tick : ℕ) (a b c d : ArrayState n m) → IsOnLines kept regs a
      → first ≡ kept.shape → second ≡ kept.shape → third ≡ kept.shape
      → Touches tick (numbers_from regs.base first.regions) None false a b
      → Touches tick (numbers_from (regs.base + second.regions) second.spares) None false b c
      → Touches tick ((regs.base + (third.regions + third.spares)) ∷ []) None false c d
      → Touches tick (all_controls first) None false a d
  touches-all kept regs first second third tick a b c d on is is_second is_third regions spares mark =
      let one = subst (λ (s : BankShape). Touches tick (numbers_from regs.base s.regions) None false a b) is regions in
      let two = subst (λ (s : BankShape). Touches tick (numbers_from (regs.base + s.regions) s.spares) None false b c) is_second spares in
      let three = subst (λ (s : BankShape). Touches tick ((regs.base + (s.regions + s.spares)) ∷ []) None false c d) is_third mark in
      let P : BankShape → Type 0 = λ s. Touches tick (all_controls s) None false a d in
      subst P (sym is)
      (subst (λ (xs : List ℕ). Touches tick xs None false a d) (all-sensed kept regs a on)
      (touches-both tick _ _ a c d (touches-both tick _ _ a b c one two) three))
