-- What an event does to its array.
use Rattle.std.proofs.Common.{◌≡◌, ℕ, refl, Bool, true, false, [], ◌∷◌, Option, Some, None, is_some}
use Rattle.std.specs.Prelude.{IfSome, IsTrue, IsFalse}
use Rattle.cell_rows.specs.Device.{ArrayState}
use Rattle.bank_shape.specs.declared.answer.Step.{Step}
use Rattle.bank_model.{specs.Touching.Touches, proofs.Touched.{touches-nothing, touches-round, touches-tear}}
use Rattle.bank_invariant.specs.State.{BankState, Operation}
use Rattle.bank_core.specs.{Cutting.{IsTorn, torn_line}, Stepping.IsIteration}

module _ {n m e : ℕ} (before after : ArrayState n m) where
  -- an iteration
  pub touches-iteration : (tick : ℕ) (old new : BankState n m e) (answer : Step) (running : Option (Operation n m e))
      → IfSome running (λ op. IsIteration tick op old new answer before after)
      → IfSome running (λ op. Touches tick (op.target ∷ []) (Some op.target) false before after)
  touches-iteration tick old new answer None step = tt
  touches-iteration tick old new answer (Some op) step =
      touches-round tick op.target op.writer.prog step.step.round.0 before after step.step.round.1 step.step.round.2

  -- a cut
  pub touches-cut : (tick : ℕ) (tearing : Bool) (running : Option (Operation n m e)) → (IsTrue tearing → IsTrue (is_some running))
      → (IsFalse tearing → after ≡ before) → (IsTrue tearing → IfSome running (λ op. IsTorn op before after))
      → Touches tick [] (torn_line tearing running) tearing before after
  touches-cut tick false running runs quiet torn = touches-nothing tick before after (quiet refl)
  touches-cut tick true None runs quiet torn = let none = runs refl in cc
  touches-cut tick true (Some op) runs quiet torn = touches-tear tick op.target op.writer.prog before after (torn refl).tear
