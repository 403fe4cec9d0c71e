-- The line write in progress on one array line, over events that leave it, and what no control line's pulse touches.
use Rattle.std.proofs.Common.{◌≡◌, ℕ, zero, ◌+◌, ◌<◌, ◌≤◌, ◌==◌, ◌&&◌, ◌||◌, not, Bool, true, false, List, ◌∷◌, Option, Some, None, refl, sym, ap, ◌∙◌, arith, cond}
use Rattle.std.proofs.{Math.Nat.min-le_left, lemmas.Bool.ne_eqb}
use Rattle.cell_rows.specs.Device.{counted}
use Rattle.bank_shape.specs.{Shape.{controls_from, control_line}, declared.BankShape.BankShape, declared.answer.Step.Step, declared.clock.Action.Action}
use Rattle.bank_shape.specs.declared.clock.Doing.TheVariants.{Iterating}
use Rattle.bank_shape.specs.declared.answer.Step.TheVariants as did
use Rattle.bank_model.specs.{After.target_after, Answers.MayAll, Changes.line_of_change, Events.BankEvent, History.{goes_on, in_progress, iterated}}
use Rattle.bank_model.specs.{Sensing.{is_at, torn_control, kept_pulsed}, Timing.{Keeping, KeepIterate, KeepCut, is_doing}, Works.held_on}
use Rattle.bank_laws.proofs.Targets.{WorkAfter, spares_work, working, target-same}

pub counted-few : (k : ℕ) → counted k ≤ k + 1
counted-few k = min-le_left (k + 1) _

pub more-goes_on : (answer : Step) → goes_on answer ≡ true → answer ≡ did.More
more-goes_on answer is = grind arith

pub tearing-going : (tearing busy : Bool) → (not tearing || busy) ≡ true → tearing ≡ true → busy ≡ true
tearing-going tearing busy may is = grind arith

pub zeros : (a b : Bool) → cond a zero zero ≡ cond b zero zero
zeros a b = grind arith

-- a control line is none of the lines before it
module _ (shape : BankShape) (at : ℕ) (low : at < controls_from shape) where
  control-elsewhere : (item : ℕ) → (control_line shape item == at) ≡ false
  control-elsewhere item = ne_eqb (control_line shape item) at (λ is. omega (arith, is, low))

  change-elsewhere : (change : Option ℕ) → is_at (line_of_change shape change) at ≡ false
  change-elsewhere None = refl
  change-elsewhere (Some item) = control-elsewhere item

  pub kept-elsewhere : (change : Option ℕ) (event : Keeping) → is_at (kept_pulsed (line_of_change shape change) event) at ≡ false
  kept-elsewhere change (KeepIterate answer) = change-elsewhere change
  kept-elsewhere change (KeepCut true) = change-elsewhere change
  kept-elsewhere change _ = refl

  pub torn-elsewhere : (change : Option ℕ) (action : Option Action) → is_at (torn_control shape change action) at ≡ false
  torn-elsewhere change action = by (is_doing Iterating action)
    where
      by : (b : Bool) → is_at (cond b (line_of_change shape change) None) at ≡ false
      by true = change-elsewhere change
      by false = refl

module _ {n : ℕ} (shape : BankShape) (at : ℕ) (h : List (BankEvent n)) where
  -- what it has had
  pub idle-held : in_progress h ≡ false → held_on shape at h ≡ 0
  idle-held is = ap (λ b. cond (b && (target_after shape h == at)) (iterated h) 0) is

  pub busy-held : in_progress h ≡ true → held_on shape at h ≡ cond (target_after shape h == at) (iterated h) 0
  busy-held is = ap (λ b. cond (b && (target_after shape h == at)) (iterated h) 0) is

  -- an event that leaves a line write in progress leaves its target
  pub held-same : (most : ℕ) (event : BankEvent n) → MayAll shape most h → spares_work event ≡ true
      → in_progress (event ∷ h) ≡ in_progress h → iterated (event ∷ h) ≡ iterated h
      → held_on shape at (event ∷ h) ≡ held_on shape at h
  held-same most event may spares busy count = by (in_progress h) refl
    where
      by : (b : Bool) → in_progress h ≡ b → held_on shape at (event ∷ h) ≡ held_on shape at h
      by true is =
          let work : WorkAfter shape h = working shape most h may is in
          let same : target_after shape (event ∷ h) ≡ target_after shape h = (target-same shape event h spares work).1 in
          ap (λ b. cond (b && (target_after shape (event ∷ h) == at)) (iterated (event ∷ h)) 0) busy
          ∙ ap (λ t. cond (in_progress h && (t == at)) (iterated (event ∷ h)) 0) same
          ∙ ap (λ k. cond (in_progress h && (target_after shape h == at)) k 0) count
      by false is =
          ap (λ b. cond (b && (target_after shape (event ∷ h) == at)) (iterated (event ∷ h)) 0) (busy ∙ is)
          ∙ sym (ap (λ b. cond (b && (target_after shape h == at)) (iterated h) 0) is)

  -- the target after a begin or an iteration that goes on
  pub going-held : (event : BankEvent n) (answer : Step) (k : ℕ) → (goes_on answer ≡ true → target_after shape (event ∷ h) ≡ target_after shape h)
      → cond (goes_on answer && (target_after shape (event ∷ h) == at)) k 0 ≡ cond (goes_on answer && (target_after shape h == at)) k 0
  going-held event answer k same = by (goes_on answer) same
    where
      by : (b : Bool) → (b ≡ true → target_after shape (event ∷ h) ≡ target_after shape h)
          → cond (b && (target_after shape (event ∷ h) == at)) k 0 ≡ cond (b && (target_after shape h == at)) k 0
      by true same = ap (λ t. cond (t == at) k 0) (same refl)
      by false same = refl
