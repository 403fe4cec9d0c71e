-- Each row that came has its outcome, unless it stands or waits.
use Rattle.std.proofs.Common.{◌≡◌, ◌≢◌, ◌⊎◌, inl, inr, ℕ, ◌<◌, ◌==◌, ◌||◌, Bool, true, false, cond, if◌then◌else◌, List, [], ◌∷◌, ◌++◌, drop, Option, Some, None, refl, sym, ap, subst, ◌∙◌, arith, eqb-true, eq-eqb}
use Rattle.std.{specs.Prelude.unwrap_or, proofs.lemmas.Bool.{or_left, or_right}}
use Rattle.result_rows.specs.declared.Outcome.{Outcome}
use Rattle.result_rows.specs.declared.Outcome.TheVariants as out
use Rattle.masked_bytes.{specs.Entries.{candidate, laid_on, merged, has_row, head_row}, specs.declared.entry.Entry.Entry, proofs.Truth.or_rest}
use Rattle.bank_shape.specs.{declared.BankShape.BankShape, declared.Work.Work, declared.answer.Served.Served, declared.answer.WriteAnswer.WriteAnswer, declared.pace.Pace.Pace}
use Rattle.bank_shape.specs.declared.answer.WriteAnswer.TheVariants as wrote
use Rattle.bank_shape.specs.declared.answer.ReadAnswer.TheVariants as came
use Rattle.bank_shape.specs.declared.answer.Step.TheVariants as did
use Rattle.bank_model.specs.{After.work_after, Answers.{MayHappen, IsServed, IsDone, head_busy_after}}
use Rattle.bank_model.specs.{Events.{BankEvent, Write, Read, Serve, Begin, Iterate, Cut, newest, RowsBelow}, History.{Awaited, queue, waits, begun, due_after, has_exhausted}}
use Rattle.bank_model.specs.{Lawful.{Lawful, MayCome}, Sensing.most_steps, Timing.{Happens, Core, Regs, TimedEvent, core, core_of}, Told.{tick_by, tick_of_row}}
use Rattle.bank_laws.{specs.Outcomes.{outcome_by, outcome_with, outcome_of, on_row}, specs.Standing.has_wait, proofs.Answering.candidate-there, proofs.Waiting.wait-push}
use Rattle.bank_invariant.proofs.Taking.{answer_merged}
use Rattle.clock_laws.{specs.Standing.{has_waiting, is_arrival_of, arrives_with, SettledLaw, LostRowsLaw, ArrivalTickLaw}, proofs.Others.same_wait}

-- whether a row has its outcome
abbrev is_set : {n : ℕ} → Outcome n → Bool
is_set out.Unset = false
is_set _ = true

there-push : {n : ℕ} (es : List (Entry n)) (x : Entry n) (row : ℕ) → has_row es row ≡ true → has_row (es ++ x ∷ []) row ≡ true
there-push [] x row h = cc
there-push (e ∷ es) x row h = by (e.row == row) h (there-push es x row)
  where
    by : (b : Bool) → (b || has_row es row) ≡ true → (has_row es row ≡ true → has_row (es ++ x ∷ []) row ≡ true) → (b || has_row (es ++ x ∷ []) row) ≡ true
    by true h rest = refl
    by false h rest = rest h

there-new : {n : ℕ} (es : List (Entry n)) (x : Entry n) (row : ℕ) → (x.row == row) ≡ true → has_row (es ++ x ∷ []) row ≡ true
there-new [] x row h = or_left (x.row == row) false h
there-new (e ∷ es) x row h = or_right (e.row == row) _ (there-new es x row h)

there-begun : {n : ℕ} (due : Option ℕ) (newest_of : ℕ → List ℕ) (es : List (Entry n)) (row : ℕ) → has_row es row ≡ true → has_row (begun due newest_of es) row ≡ true
there-begun due newest_of es row h = grind arith

module _ {n : ℕ} (old at : ℕ) (bytes : List ℕ) (given : List Bool) where
  -- other entries stay at a merge
  there-merged : (es : List (Entry n)) (row : ℕ) → (old == row) ≡ false → has_row es row ≡ true → has_row (merged old at bytes given es) row ≡ true
  there-merged [] row off h = cc
  there-merged (e ∷ es) row off h = by (e.row == old) (eqb-true e.row old) (there-merged es row off)
    where
      own : (b : Bool) → (b || has_row es row) ≡ true → (has_row es row ≡ true → has_row (merged old at bytes given es) row ≡ true) → (b || has_row (merged old at bytes given es) row) ≡ true
      own true h rest = refl
      own false h rest = rest h

      by : (b : Bool) → (b ≡ true → e.row ≡ old) → (has_row es row ≡ true → has_row (merged old at bytes given es) row ≡ true)
          → has_row (if b then laid_on at bytes given e ∷ es else e ∷ merged old at bytes given es) row ≡ true
      by b is rest = grind arith

  -- and the entry that was merged into has the new row
  merged-new : (es : List (Entry n)) → has_row es old ≡ true → has_row (merged old at bytes given es) at ≡ true
  merged-new [] h = cc
  merged-new (e ∷ es) h = by (e.row == old) refl (merged-new es)
    where
      by : (b : Bool) → (e.row == old) ≡ b → (has_row es old ≡ true → has_row (merged old at bytes given es) at ≡ true)
          → has_row (if b then laid_on at bytes given e ∷ es else e ∷ merged old at bytes given es) at ≡ true
      by true is rest = or_left (at == at) _ (eq-eqb at at refl)
      by false is rest = or_right (e.row == at) _ (rest (or_rest (e.row == old) _ is h))

wait-new : (ws : List Awaited) (w : Awaited) (row : ℕ) → (w.row == row) ≡ true → has_wait (ws ++ w ∷ []) row ≡ true
wait-new [] w row h = or_left (w.row == row) false h
wait-new (v ∷ ws) w row h = or_right (v.row == row) _ (wait-new ws w row h)

module _ {n : ℕ} (shape : BankShape) (h : List (BankEvent n)) (row tick : ℕ) (before : Outcome n) where
  -- a row stands, waits or has its outcome
  abbrev Stands : List (Entry n) → List Awaited → Outcome n → Type 0
  Stands es ws outcome = (has_row es row ≡ true) ⊎ ((has_wait ws row ≡ true) ⊎ (is_set outcome ≡ true))

  -- what an event for this row, or for another, leaves where only the outcome may change
  on-own : (at : ℕ) (outcome : Outcome n) (es : List (Entry n)) (ws : List Awaited) → is_set outcome ≡ true → ((at == row) ≡ true) ⊎ Stands es ws before
      → Stands es ws (unwrap_or (on_row at row outcome) before)
  on-own at outcome es ws set h = by (at == row) refl h
    where
      by : (b : Bool) → (at == row) ≡ b → ((at == row) ≡ true) ⊎ Stands es ws before → Stands es ws (unwrap_or (if b then Some outcome else None) before)
      by b is h = grind arith

  kept-by : (b : Bool) (outcome : Outcome n) (es fs : List (Entry n)) (ws vs : List Awaited) → is_set outcome ≡ true
      → (b ≡ false → has_row es row ≡ true → has_row fs row ≡ true) → (b ≡ false → has_wait ws row ≡ true → has_wait vs row ≡ true)
      → Stands es ws before → Stands fs vs (unwrap_or (if b then Some outcome else None) before)
  kept-by b outcome es fs ws vs set rows reads stands = grind arith

  stored-head : (work : Work) (at place : ℕ) → IsDone shape h work (did.Stored at place) → at ≡ head_row (queue shape h)
  stored-head work at place done = grind arith

  there-drop : (es : List (Entry n)) (at : ℕ) → at ≡ head_row es → (at == row) ≡ false → has_row es row ≡ true → has_row (drop 1 es) row ≡ true
  there-drop [] at is off h = h
  there-drop (e ∷ es) at is off h = or_rest (e.row == row) _ (ap (λ r. r == row) (sym is) ∙ off) h

  wait-drop : (ws : List Awaited) (answer : Served n) → IsServed shape h ws answer → (answer.row == row) ≡ false → has_wait ws row ≡ true → has_wait (drop 1 ws) row ≡ true
  wait-drop [] answer is off k = absurd is
  wait-drop (w ∷ ws) answer is off k = or_rest (w.row == row) _ (ap (λ r. r == row) (sym is.0) ∙ off) k

  begun-kept : (stands : Stands (queue shape h) (waits shape h) before) → Stands (begun (due_after shape h) (newest h) (queue shape h)) (waits shape h) before
  begun-kept (inl there) = inl (there-begun (due_after shape h) (newest h) (queue shape h) row there)
  begun-kept (inr other) = inr other

  step : (most : ℕ) (event : BankEvent n) → MayHappen shape h most event → (is_arrival_of (Core event) row ≡ true) ⊎ Stands (queue shape h) (waits shape h) before
      → Stands (queue shape (event ∷ h)) (waits shape (event ∷ h)) (unwrap_or (outcome_by (waits shape h) event tick row) before)
  step most (Write at line bytes given wrote.Accepted) may (inl own) = inl (there-new (queue shape h) (record { row = at; line = line; bytes = bytes; given = given }) row own)
  step most (Write at line bytes given wrote.Accepted) may (inr (inl there)) = inl (there-push (queue shape h) (record { row = at; line = line; bytes = bytes; given = given }) row there)
  step most (Write at line bytes given wrote.Accepted) may (inr (inr other)) = inr other
  step most (Write at line bytes given (wrote.Merged old)) may (inl own) =
      let told = answer_merged shape h (has_exhausted h) (candidate (head_busy_after shape h) (queue shape h) line) old may.2 in
      inl (subst (λ (r : ℕ). has_row (merged old at bytes given (queue shape h)) r ≡ true) (eqb-true at row own)
      (merged-new old at bytes given (queue shape h) (candidate-there (head_busy_after shape h) (queue shape h) line old told.1)))
  step most (Write at line bytes given (wrote.Merged old)) may (inr stands) =
      kept-by (old == row) (out.Merged tick) (queue shape h) (merged old at bytes given (queue shape h)) (waits shape h) (waits shape h) refl
      (λ off there. there-merged old at bytes given (queue shape h) row off there) (λ off waiting. waiting) stands
  step most (Write at line bytes given wrote.Full) may stands = on-own at (out.Full tick) (queue shape h) (waits shape h) refl stands
  step most (Write at line bytes given wrote.Exhausted) may stands = on-own at (out.Worn tick) (queue shape h) (waits shape h) refl stands
  step most (Read at line came.Waiting) may (inl own) = inr (inl (wait-new (waits shape h) _ row own))
  step most (Read at line came.Waiting) may (inr (inl there)) = inl there
  step most (Read at line came.Waiting) may (inr (inr (inl waiting))) = inr (inl (wait-push (waits shape h) _ row waiting))
  step most (Read at line came.Waiting) may (inr (inr (inr done))) = inr (inr done)
  step most (Read at line came.Busy) may stands = on-own at (out.Busy tick) (queue shape h) (waits shape h) refl stands
  step most (Read at line (came.Forwarded bytes)) may stands = on-own at (out.Forwarded tick bytes) (queue shape h) (waits shape h) refl stands
  step most (Serve answer) may (inr stands) =
      kept-by (answer.row == row) (out.Read tick answer.place answer.bytes) (queue shape h) (queue shape h) (waits shape h) (drop 1 (waits shape h)) refl
      (λ off there. there) (λ off waiting. wait-drop (waits shape h) answer may off waiting) stands
  step most (Begin (did.Stored at place)) may (inr stands) =
      kept-by (at == row) (out.Stored tick place) (queue shape h) (drop 1 (queue shape h)) (waits shape h) (waits shape h) refl
      (λ off there. there-drop (queue shape h) at (stored-head (work_after shape h) at place may.1) off there) (λ off waiting. waiting) stands
  step most (Begin did.More) may (inr stands) = begun-kept stands
  step most (Begin (did.Moved move)) may (inr stands) = begun-kept stands
  step most (Begin (did.Retired slot line)) may (inr stands) = begun-kept stands
  step most (Begin did.Exhausted) may (inr stands) = begun-kept stands
  step most (Iterate (did.Stored at place)) may (inr stands) =
      kept-by (at == row) (out.Stored tick place) (queue shape h) (drop 1 (queue shape h)) (waits shape h) (waits shape h) refl
      (λ off there. there-drop (queue shape h) at (stored-head (work_after shape h) at place may.1) off there) (λ off waiting. waiting) stands
  step most (Iterate did.More) may (inr stands) = stands
  step most (Iterate (did.Moved move)) may (inr stands) = stands
  step most (Iterate (did.Retired slot line)) may (inr stands) = stands
  step most (Iterate did.Exhausted) may (inr stands) = stands
  step most (Cut tearing) may (inr stands) =
      kept-by (has_wait (waits shape h) row) (out.Lost tick) (queue shape h) (queue shape h) (waits shape h) [] refl (λ off there. there) (λ off waiting. cc) stands
  step most _ may (inl own) = cc

module _ {n m : ℕ} (shape : BankShape) (pace : Pace) (e row : ℕ) where
  stands : (xs : List (TimedEvent n m)) → Lawful shape pace e xs → arrives_with xs row ≡ true → Stands shape (core xs) row 0 (outcome_of shape xs row) (queue shape (core xs)) (waits shape (core xs)) (outcome_of shape xs row)
  stands [] lawful came = cc
  stands (x ∷ xs) lawful came = by x.happens lawful.0 (which (is_arrival_of x.happens row) came (stands xs lawful.1))
    where
      which : (b : Bool) → (b || arrives_with xs row) ≡ true
          → (arrives_with xs row ≡ true → Stands shape (core xs) row 0 (outcome_of shape xs row) (queue shape (core xs)) (waits shape (core xs)) (outcome_of shape xs row))
          → (b ≡ true) ⊎ Stands shape (core xs) row 0 (outcome_of shape xs row) (queue shape (core xs)) (waits shape (core xs)) (outcome_of shape xs row)
      which true came rest = inl refl
      which false came rest = inr (rest came)

      by : (h : Happens n) → MayCome shape pace e xs x h
          → (is_arrival_of h row ≡ true) ⊎ Stands shape (core xs) row 0 (outcome_of shape xs row) (queue shape (core xs)) (waits shape (core xs)) (outcome_of shape xs row)
          → Stands shape (core xs) row 0 (outcome_of shape xs row) (queue shape (core_of h (core xs))) (waits shape (core_of h (core xs)))
          (unwrap_or (outcome_with shape xs h x.tick row) (outcome_of shape xs row))
      by (Core event) may h = step shape (core xs) row x.tick (outcome_of shape xs row) (most_steps e) event may.may h
      by (Regs event) may (inl came) = absurd (cc)
      by (Regs event) may (inr stands) = stands

pub settled_law : SettledLaw
settled_law n m e row xs clock array leads came none waits_not =
    by (stands clock.bank.kept.shape clock.pace e row xs leads.lawful came)
  where
    by : (has_row (queue clock.bank.kept.shape (core xs)) row ≡ true) ⊎ ((has_wait (waits clock.bank.kept.shape (core xs)) row ≡ true) ⊎ (is_set (outcome_of clock.bank.kept.shape xs row) ≡ true))
        → outcome_of clock.bank.kept.shape xs row ≢ out.Unset
    by (inl there) unset = let no : has_row (queue clock.bank.kept.shape (core xs)) row ≡ false = ap (λ es. has_row es row) (sym leads.holds.entries) ∙ none in cc
    by (inr (inl waiting)) unset =
        let no : has_wait (waits clock.bank.kept.shape (core xs)) row ≡ false =
        sym (same_wait n (waits clock.bank.kept.shape (core xs)) row) ∙ ap (λ ws. has_waiting ws row) (sym leads.holds.waiting) ∙ waits_not in
        cc
    by (inr (inr set)) unset = let no : is_set (outcome_of clock.bank.kept.shape xs row) ≡ false = ap is_set unset in cc

pub lost_rows_law : LostRowsLaw
lost_rows_law n m e row tick tearing xs clock array leads =
    ap (λ b. if b then Some (out.Lost tick) else None)
    (sym (same_wait n (waits clock.bank.kept.shape (core xs)) row) ∙ ap (λ ws. has_waiting ws row) (sym leads.holds.waiting))

-- Arrival ticks

module _ {n m : ℕ} where
  -- a row that came is below the bound of all
  came-below : (row line : ℕ) (bytes : List ℕ) (given : List Bool) (answer : WriteAnswer) (later xs : List (TimedEvent n m)) (x : TimedEvent n m) (bound : ℕ) → RowsBelow (core (later ++ x ∷ xs)) bound
      → x.happens ≡ Core (Write row line bytes given answer) → (row < bound) × (tick_of_row row (later ++ x ∷ xs) ≡ x.tick)
  came-below row line bytes given answer [] xs x bound below is =
      let P : Happens n → Type 0 = λ h. RowsBelow (core_of h (core xs)) bound in
      let own : RowsBelow (Write row line bytes given answer ∷ core xs) bound = subst P is below in
      (own.0, ap (λ (h : Happens n). tick_by row h x.tick (tick_of_row row xs)) is ∙ ap (λ b. cond b x.tick (tick_of_row row xs)) (eq-eqb row row refl))
  came-below row line bytes given answer (y ∷ later) xs x bound below is = by y.happens below (λ at under. came-below row line bytes given answer later xs x at under is)
    where
      by : (h : Happens n) → RowsBelow (core_of h (core (later ++ x ∷ xs))) bound
          → ((at : ℕ) → RowsBelow (core (later ++ x ∷ xs)) at → (row < at) × (tick_of_row row (later ++ x ∷ xs) ≡ x.tick))
          → (row < bound) × (tick_by row h y.tick (tick_of_row row (later ++ x ∷ xs)) ≡ x.tick)
      by h below rest = grind arith

pub arrival_tick_law : ArrivalTickLaw
arrival_tick_law n m row line bound bytes given answer later xs x below is = (came-below row line bytes given answer later xs x bound below is).1
