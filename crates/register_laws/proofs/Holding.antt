-- What the change that stands, and the control lines behind it, hold of an item.
use Rattle.std.proofs.Common.{◌≡◌, ◌≢◌, ℕ, ◌+◌, ◌<◌, Bool, true, false, eqb, List, Option, Some, None, refl, sym, ap, ◌∙◌, arith, eqb-true, eq-eqb}
use Rattle.std.{specs.Prelude.IfSome, proofs.lemmas.Bool.eqb-false}
use Rattle.bank_shape.{specs.Shape.controls_of, specs.declared.BankShape.BankShape, proofs.Sizes.if_array-le}
use Rattle.cell_rows.specs.Device.{ArrayState, LineState}
use Rattle.ecp_line.specs.Reading.{decode}
use Rattle.reg_lines.specs.{Regs.{RegsState, values_by}, Values.values_in, declared.Change.Change}
use Rattle.register_laws.specs.Items.{items_of}

-- there are no more control lines than items
pub controls-items : (shape : BankShape) (item : ℕ) → item < controls_of shape → item < items_of shape
controls-items shape item below = let most = if_array-le shape.home (shape.regions + shape.spares + 1) in omega (arith, below, most)

-- an item that isn't the change's
abbrev pub IsOther : Option Change → ℕ → Type 0
IsOther change item = IfSome change (λ change. item ≢ change.item)

-- an item has the same values while the change stands, and the lines of others hold what they held
pub values-stay : (change : Option Change) (item : ℕ) (before after : List ℕ) → (IsOther change item → after ≡ before) → values_by change item after ≡ values_by change item before
values-stay None item before after same = same tt
values-stay (Some change) item before after same = by (eqb change.item item) refl
  where
    by : (b : Bool) → eqb change.item item ≡ b → values_by (Some change) item after ≡ values_by (Some change) item before
    by true is = rw is refl
    by false is = rw is (same (λ equal. eqb-false change.item item is (sym equal)))

-- and once the change is gone, where its own line holds its values
pub values-done : (change : Change) (item : ℕ) (before after : List ℕ) → (item ≢ change.item → after ≡ before) → (item ≡ change.item → after ≡ change.values)
    → after ≡ values_by (Some change) item before
values-done change item before after same own = by (eqb change.item item) refl
  where
    by : (b : Bool) → eqb change.item item ≡ b → after ≡ values_by (Some change) item before
    by true is = rw is (own (sym (eqb-true change.item item is)))
    by false is = rw is (same (λ equal. eqb-false change.item item is (sym equal)))

-- the change's own values are those of its item
pub values-own : (change : Change) (held : List ℕ) → values_by (Some change) change.item held ≡ change.values
values-own change held = rw (eq-eqb change.item change.item refl) refl

-- where no change stands, one that is put has its item's values, and the others have what they had
pub values-put : (change : Change) (item : ℕ) (own other held : List ℕ) → change.values ≡ own → (item ≡ change.item → other ≡ own) → (item ≢ change.item → other ≡ held)
    → other ≡ values_by (Some change) item held
values-put change item own other held is mine others = by (eqb change.item item) refl
  where
    by : (b : Bool) → eqb change.item item ≡ b → other ≡ values_by (Some change) item held
    by true e = rw e (mine (sym (eqb-true change.item item e)) ∙ sym is)
    by false e = rw e (others (λ equal. eqb-false change.item item e (sym equal)))

module _ {n m e : ℕ} where
  -- what a control line is read as, where it is as it was
  pub read-same : (regs : RegsState n m e) (before after : ArrayState n m) (item : ℕ) → after.line (regs.base + item) ≡ before.line (regs.base + item)
      → values_in (decode e (after.line (regs.base + item)).held) ≡ values_in (decode e (before.line (regs.base + item)).held)
  read-same regs before after item same = ap (λ (l : LineState n m). values_in (decode e l.held)) same
