-- An outcome has the tick of the event that gave it.
use Rattle.std.proofs.Common.{◌≡◌, ◌⊎◌, ℕ, ◌==◌, Bool, true, false, List, [], ◌∷◌, ◌++◌, Option, Some, None, inl, inr, refl, sym, ap, subst, ◌∙◌}
use Rattle.std.{specs.List.list_any, specs.Prelude.{All, IfSome, IsSomeAnd, if◌then◌else◌, unwrap_or}, proofs.lemmas.List.Elements.{All-head, All-tail}}
use Rattle.result_rows.specs.{Outcomes.tick_of, declared.Outcome.Outcome}
use Rattle.result_rows.specs.declared.Outcome.TheVariants as out
use Rattle.bank_shape.specs.{declared.BankShape.BankShape, declared.answer.Step.Step}
use Rattle.bank_shape.specs.declared.answer.WriteAnswer.TheVariants as wrote
use Rattle.bank_shape.specs.declared.answer.ReadAnswer.TheVariants as came
use Rattle.bank_shape.specs.declared.answer.Step.TheVariants as did
use Rattle.bank_model.specs.{Events.{Write, Read, Serve, Begin, Iterate, Cut}, History.waits, Timing.{Happens, Core, TimedEvent, core}}
use Rattle.bank_laws.specs.Outcomes.{on_row, outcome_of, outcome_with, step_outcome}

module _ {n : ℕ} (tick row : ℕ) (o : Outcome n) where
  own-tick : (at : ℕ) (mine : Outcome n) → tick_of mine ≡ Some tick → on_row at row mine ≡ Some o → tick_of o ≡ Some tick
  own-tick at mine own is = by (at == row) is
    where
      by : (b : Bool) → (if b then Some mine else None) ≡ Some o → tick_of o ≡ Some tick
      by true is =
          let same : mine ≡ o = cc in
          ap tick_of (sym same) ∙ own
      by false is = absurd (cc is)

  step-tick : (answer : Step) → step_outcome answer tick row ≡ Some o → tick_of o ≡ Some tick
  step-tick (did.Stored at place) is = own-tick at (out.Stored tick place) refl is
  step-tick _ is = absurd (cc is)

  -- an event tells an outcome with its own tick
  with-tick : {m : ℕ} (shape : BankShape) (xs : List (TimedEvent n m)) (h : Happens n) → outcome_with shape xs h tick row ≡ Some o → tick_of o ≡ Some tick
  with-tick shape xs (Core (Write at line bytes given (wrote.Merged old))) is = own-tick old (out.Merged tick) refl is
  with-tick shape xs (Core (Write at line bytes given wrote.Full)) is = own-tick at (out.Full tick) refl is
  with-tick shape xs (Core (Write at line bytes given wrote.Exhausted)) is = own-tick at (out.Worn tick) refl is
  with-tick shape xs (Core (Read at line (came.Forwarded bytes))) is = own-tick at (out.Forwarded tick bytes) refl is
  with-tick shape xs (Core (Read at line came.Busy)) is = own-tick at (out.Busy tick) refl is
  with-tick shape xs (Core (Serve answer)) is = own-tick answer.row (out.Read tick answer.place answer.bytes) refl is
  with-tick shape xs (Core (Begin answer)) is = step-tick answer is
  with-tick shape xs (Core (Iterate answer)) is = step-tick answer is
  with-tick shape xs (Core (Cut tearing)) is = lost (list_any (λ w. w.row == row) (waits shape (core xs))) is
    where
      lost : (b : Bool) → (if b then Some (out.Lost tick) else None) ≡ Some o → tick_of o ≡ Some tick
      lost true is =
          let same : out.Lost tick ≡ o = cc in
          ap tick_of (sym same)
      lost false is = absurd (cc is)
  with-tick shape xs _ is = absurd (cc is)

module _ {n m : ℕ} (shape : BankShape) (row : ℕ) (P : ℕ → Type 0) where
  abbrev Has : TimedEvent n m → Type 0
  Has x = P x.tick

  -- where it holds of the tick of each event, it holds of that of the outcome so far, if there is one
  pub so-far : (xs : List (TimedEvent n m)) → All Has xs → IfSome (tick_of (outcome_of shape xs row)) P
  so-far [] all = tt
  so-far (x ∷ xs) all =
      by (outcome_with shape xs x.happens x.tick row) refl (so-far xs (All-tail Has x xs all))
    where
      by : (o : Option (Outcome n)) → outcome_with shape xs x.happens x.tick row ≡ o → IfSome (tick_of (outcome_of shape xs row)) P
          → IfSome (tick_of (unwrap_or o (outcome_of shape xs row))) P
      by None is before = before
      by (Some o) is before = subst (λ (t : Option ℕ). IfSome t P) (sym (with-tick x.tick row o shape xs x.happens is)) (All-head Has x xs all)

  -- where it holds of those of later events, they leave the outcome as it was, or it holds of that of the new one
  pub since-then : (since xs : List (TimedEvent n m)) → All Has since
      → (outcome_of shape (since ++ xs) row ≡ outcome_of shape xs row) ⊎ IsSomeAnd (tick_of (outcome_of shape (since ++ xs) row)) P
  since-then [] xs all = inl refl
  since-then (x ∷ since) xs all =
      by (outcome_with shape (since ++ xs) x.happens x.tick row) refl (since-then since xs (All-tail Has x since all))
    where
      Told : Outcome n → Type 0
      Told o = (o ≡ outcome_of shape xs row) ⊎ IsSomeAnd (tick_of o) P

      by : (o : Option (Outcome n)) → outcome_with shape (since ++ xs) x.happens x.tick row ≡ o → Told (outcome_of shape (since ++ xs) row)
          → Told (unwrap_or o (outcome_of shape (since ++ xs) row))
      by None is before = before
      by (Some o) is before = inr (subst (λ (t : Option ℕ). IsSomeAnd t P) (sym (with-tick x.tick row o shape (since ++ xs) x.happens is)) (All-head Has x since all))
