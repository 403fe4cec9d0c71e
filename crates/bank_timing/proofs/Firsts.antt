-- That the empty history leads to a clock that was just made.
use Rattle.std.proofs.Common.{◌≡◌, ℕ, ◌+◌, ◌^◌, ◌<◌, ◌≤◌, refl, subst, arith, []}
use Rattle.cell_rows.specs.Device.{ArrayState, IsBlank}
use Rattle.bank_shape.specs.{Shape.{IsBankShape, slots_of, controls_of, controls_from, control_line}, declared.BankShape.BankShape, declared.Home.Home, declared.pace.Pace.Pace}
use Rattle.bank_shape.specs.declared.Home.TheVariants as home
use Rattle.register_laws.proofs.{Determining.all-items, Staying.start_law as control_law}
use Rattle.bank_invariant.specs.{Holds.Holds, State.first_bank}
use Rattle.bank_core.specs.Steps.{IsFreshFor}
use Rattle.clock_laws.{specs.Leads.Leads, proofs.Passing.start_law}
use Rattle.bank_timing.specs.Extending.{first_clock}

place : (shape : BankShape) (item : ℕ) → shape.base + (slots_of shape + shape.spares + item) ≡ control_line shape item
place shape item = omega arith

-- a bank has control lines only where its registers are in the array
pub wide-controls : (shape : BankShape) (n : ℕ) → (shape.home ≡ home.Array → 16 ≤ n) → 0 < controls_of shape → 16 ≤ n
wide-controls shape n wide some = by shape.home refl
  where
    by : (h : Home) → shape.home ≡ h → 16 ≤ n
    by home.Array is = wide is
    by home.Guarded is = absurd (none (subst (λ (count : ℕ). 0 < count) (all-items shape home.Guarded is) some))
      where
        none : 0 < 0 → ⊥
        none below = omega (arith, below)

pub controls-fit : (shape : BankShape) → IsBankShape shape → controls_from shape + controls_of shape ≤ 2 ^ 32
controls-fit shape limits = let fits = limits.fits in omega (arith, fits)

module _ {n m e : ℕ} where
  -- over fresh lines, where it leads to the bank
  pub first_leads : (shape : BankShape) (pace : Pace) (array : ArrayState n m)
      → (shape.home ≡ home.Array → 16 ≤ n) → Holds {e = e} [] (first_bank shape) array → IsFreshFor shape array → Leads {e = e} [] (first_clock shape pace) array
  first_leads shape pace array wide holds fresh =
      start_law n m e (first_clock shape pace) array holds refl refl refl refl refl
      (control_law n m e shape array (wide-controls shape n wide) fresh.lines
      (λ item below. subst (λ (at : ℕ). IsBlank (array.line at)) (place shape item) (fresh.blank (slots_of shape + shape.spares + item) (omega (arith, below)))))
      refl refl refl refl fresh.blank
