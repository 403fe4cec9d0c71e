-- The array line that a line write has as its target stays so until the write ends.
use Rattle.std.proofs.Common.{arith, ◌≡◌, ℕ, ◌&&◌, not, Bool, true, false, List, [], ◌∷◌, ◌++◌, Option, Some, None, refl, ap, ◌∙◌, cond, eqb}
use Rattle.masked_bytes.{specs.Entries.{merged, laid_on}, specs.declared.entry.Entry.Entry, proofs.Truth.and_second}
use Rattle.bank_shape.specs.{declared.BankShape.BankShape, declared.Work.TheVariants.Nothing}
use Rattle.bank_shape.specs.declared.answer.WriteAnswer.TheVariants as wrote
use Rattle.bank_shape.specs.declared.answer.Step.TheVariants as did
use Rattle.bank_model.specs.{After.{is_ready, due_work, work_after, slot_of_work, array_line_after, target_after, may_begin_after}, Answers.MayAll}
use Rattle.bank_model.specs.Events.{BankEvent, Write, Read, Serve, Begin, Iterate, Cut, newest}
use Rattle.bank_model.specs.History.{Awaited, begun, goes_on, queue, waits, due_after, has_exhausted, in_progress}
use Rattle.bank_laws.proofs.Pairs.{HasWork, keeps_pairs}

-- a bank that isn't exhausted has a work to do
abbrev pub WorkOf : {n : ℕ} → Bool → Option ℕ → List (Entry n) → Type 0
WorkOf true due es = ⊥
WorkOf false (Some region) es = Unit {0}
WorkOf false None [] = ⊥
WorkOf false None (e ∷ es) = Unit {0}

work-push : {n : ℕ} (b : Bool) (due : Option ℕ) (es : List (Entry n)) (x : Entry n) → WorkOf b due es → WorkOf b due (es ++ x ∷ [])
work-push b due es x w = grind arith

work-merged : {n : ℕ} (b : Bool) (due : Option ℕ) (old row : ℕ) (bytes : List ℕ) (given : List Bool) (es : List (Entry n)) → WorkOf b due es → WorkOf b due (merged old row bytes given es)
work-merged true due old row bytes given es w = w
work-merged false (Some region) old row bytes given es w = tt
work-merged false None old row bytes given [] w = w
work-merged false None old row bytes given (e ∷ es) w =
    elim (eqb e.row old) as (λ b. WorkOf false None (cond b (laid_on row bytes given e ∷ es) (e ∷ merged old row bytes given es))) [ true ↦ tt | false ↦ tt ]

work-begun : {n : ℕ} (b : Bool) (due by : Option ℕ) (f : ℕ → List ℕ) (es : List (Entry n)) → WorkOf b due es → WorkOf b due (begun by f es)
work-begun b due by f es w = grind arith

work-full : {n : ℕ} (b : Bool) (due : Option ℕ) (es : List (Entry n)) → HasWork b due es → WorkOf b due es
work-full b due es w = grind arith

pub unexhausted : {n : ℕ} (b : Bool) (due : Option ℕ) (es : List (Entry n)) → WorkOf b due es → b ≡ false
unexhausted b due es w = grind arith

module _ {n : ℕ} (shape : BankShape) (h : List (BankEvent n)) where
  due-push : (due : Option ℕ) (es : List (Entry n)) (x : Entry n) → WorkOf false due es → due_work shape h due (es ++ x ∷ []) ≡ due_work shape h due es
  due-push due es x w = grind arith

  due-merged : (due : Option ℕ) (old row : ℕ) (bytes : List ℕ) (given : List Bool) (es : List (Entry n)) → due_work shape h due (merged old row bytes given es) ≡ due_work shape h due es
  due-merged None old row bytes given (e ∷ es) =
      elim (eqb e.row old) as (λ b. due_work shape h None (cond b (laid_on row bytes given e ∷ es) (e ∷ merged old row bytes given es)) ≡ due_work shape h None (e ∷ es)) [ true ↦ refl | false ↦ refl ]
  due-merged _ old row bytes given _ = refl

  due-begun : (due by : Option ℕ) (f : ℕ → List ℕ) (es : List (Entry n)) → due_work shape h due (begun by f es) ≡ due_work shape h due es
  due-begun due by f es = grind arith

  target-by : (b : Bool) (due : Option ℕ) (new es : List (Entry n)) → (b ≡ false → due_work shape h due new ≡ due_work shape h due es)
      → array_line_after shape h (slot_of_work shape h (cond b Nothing (due_work shape h due new))) ≡ array_line_after shape h (slot_of_work shape h (cond b Nothing (due_work shape h due es)))
  target-by true due new es same = refl
  target-by false due new es same = ap (λ work. array_line_after shape h (slot_of_work shape h work)) (same refl)

  due-more : (b : Bool) (due : Option ℕ) (es : List (Entry n)) (x : Entry n) → WorkOf b due es → b ≡ false → due_work shape h due (es ++ x ∷ []) ≡ due_work shape h due es
  due-more true due es x w is = absurd w
  due-more false due es x w is = due-push due es x w

  -- a work that is there is ready where no read waits
  pub ready : (b : Bool) (due : Option ℕ) (es : List (Entry n)) → WorkOf b due es → is_ready [] (cond b Nothing (due_work shape h due es)) ≡ true
  ready b due es w = grind arith

  -- and one that may be begun is there
  pub ready-work : (ws : List Awaited) (b : Bool) (due : Option ℕ) (es : List (Entry n)) → is_ready ws (cond b Nothing (due_work shape h due es)) ≡ true → WorkOf b due es
  ready-work ws b due es r = grind arith

-- an event that doesn't end a line write
abbrev pub spares_work : {n : ℕ} → BankEvent n → Bool
spares_work (Write row line bytes given answer) = true
spares_work (Read row line answer) = true
spares_work (Serve answer) = true
spares_work (Begin answer) = goes_on answer
spares_work (Iterate answer) = goes_on answer
spares_work (Cut tearing) = true

module _ {n : ℕ} (shape : BankShape) where
  -- a bank has a work to do after these events
  abbrev pub WorkAfter : List (BankEvent n) → Type 0
  WorkAfter h = WorkOf (has_exhausted h) (due_after shape h) (queue shape h)

  pub working : (most : ℕ) (h : List (BankEvent n)) → MayAll shape most h → in_progress h ≡ true → WorkAfter h
  working most h m p = work-full (has_exhausted h) (due_after shape h) (queue shape h) ((keeps_pairs shape most h m).working p)

  -- then it has the same one, with the same target
  abbrev pub Same : BankEvent n → List (BankEvent n) → Type 0
  Same event h = WorkAfter (event ∷ h) × (target_after shape (event ∷ h) ≡ target_after shape h)

  pub target-same : (event : BankEvent n) (h : List (BankEvent n)) → spares_work event ≡ true → WorkAfter h → Same event h
  target-same (Write row line bytes given wrote.Accepted) h s w = (
    work-push (has_exhausted h) (due_after shape h) (queue shape h) _ w,
    target-by shape h (has_exhausted h) (due_after shape h) _ (queue shape h) (due-more shape h (has_exhausted h) (due_after shape h) (queue shape h) _ w),
  )
  target-same (Write row line bytes given (wrote.Merged old)) h s w = (
    work-merged (has_exhausted h) (due_after shape h) old row bytes given (queue shape h) w,
    target-by shape h (has_exhausted h) (due_after shape h) _ (queue shape h) (λ b. due-merged shape h (due_after shape h) old row bytes given (queue shape h)),
  )
  target-same (Begin did.More) h s w = (
    work-begun (has_exhausted h) (due_after shape h) (due_after shape h) (newest h) (queue shape h) w,
    target-by shape h (has_exhausted h) (due_after shape h) _ (queue shape h) (λ b. due-begun shape h (due_after shape h) (due_after shape h) (newest h) (queue shape h)),
  )
  target-same (Begin _) h s w = absurd (cc)
  target-same (Iterate did.More) h s w = (w, refl)
  target-same (Iterate _) h s w = absurd (cc)
  target-same _ h s w = (w, refl)

  -- a bank without waiting reads and without a line write in progress may begin a work that is there
  pub work-begins : (h : List (BankEvent n)) (ws : List Awaited) → waits shape h ≡ ws → ws ≡ [] → in_progress h ≡ false → WorkAfter h → may_begin_after shape h ≡ true
  work-begins h ws is none p w =
      let empty : waits shape h ≡ [] = is ∙ none in
      ap (λ b. not b && is_ready (waits shape h) (work_after shape h)) p ∙ ap (λ ws. is_ready ws (work_after shape h)) empty ∙ ready shape h (has_exhausted h) (due_after shape h) (queue shape h) w

  pub begin-works : (h : List (BankEvent n)) → may_begin_after shape h ≡ true → WorkAfter h
  begin-works h m = ready-work shape h (waits shape h) (has_exhausted h) (due_after shape h) (queue shape h) (and_second (not (in_progress h)) _ m)
