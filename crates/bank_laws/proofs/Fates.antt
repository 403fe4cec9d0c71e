-- What becomes of a row: an accepted write leaves the queue or stays there, and a read that waits is answered or lost.
use Rattle.std.proofs.Common.{arith, ◌≡◌, ◌≢◌, ℕ, ◌==◌, ◌||◌, ◌⊎◌, inl, inr, Bool, true, false, List, [], ◌∷◌, ◌++◌, Some, None, drop, refl, sym, ◌∙◌, subst, cond, eqb, eqb-true}
use Rattle.std.{specs.Prelude.unwrap_or, proofs.lemmas.Bool.{eq-eqb, or_left, or_right}}
use Rattle.result_rows.specs.declared.Outcome.{Outcome}
use Rattle.result_rows.specs.declared.Outcome.TheVariants as out
use Rattle.masked_bytes.specs.{Entries.{has_row, merged, laid_on}, declared.entry.Entry.Entry}
use Rattle.bank_shape.specs.{declared.BankShape.BankShape, declared.answer.Served.Served, declared.pace.Pace.Pace}
use Rattle.bank_shape.specs.declared.answer.WriteAnswer.TheVariants as wrote
use Rattle.bank_shape.specs.declared.answer.ReadAnswer.TheVariants as came
use Rattle.bank_shape.specs.declared.answer.Step.TheVariants as did
use Rattle.bank_model.specs.{Answers.IsServed, Events.{Write, Read, Serve, Begin, Iterate, Cut, newest}, History.{Awaited, queue, waits, due_after}, Lawful.{Lawful, MayCome}}
use Rattle.bank_model.{specs.Timing.{Happens, Core, TimedEvent, core, core_of}, proofs.Begun.row-begun}
use Rattle.bank_laws.{specs.Outcomes.{on_row, outcome_with, outcome_of}, specs.Standing.has_wait, proofs.Answering.{IsHead, stored-head}, proofs.Settling.{opens, step_stays}}

module _ {n : ℕ} where
  -- the outcome of a write that has left the queue
  abbrev pub IsLeft : Outcome n → Type 0
  IsLeft (out.Stored tick place) = Unit {0}
  IsLeft (out.Merged tick) = Unit {0}
  IsLeft _ = ⊥

  -- the outcome of a read that waited, which is owed these bytes
  abbrev pub IsSettled : List ℕ → Outcome n → Type 0
  IsSettled owed (out.Read tick place bytes) = bytes ≡ owed
  IsSettled owed (out.Lost tick) = Unit {0}
  IsSettled owed _ = ⊥

  left-set : (o : Outcome n) → IsLeft o → o ≢ out.Unset
  left-set x0 l e = grind arith

  settled-set : (owed : List ℕ) (o : Outcome n) → IsSettled owed o → o ≢ out.Unset
  settled-set owed x1 l e = grind arith

  there-push : (es : List (Entry n)) (x : Entry n) (r : ℕ) → has_row es r ≡ true → has_row (es ++ x ∷ []) r ≡ true
  there-push [] x r h = absurd (cc)
  there-push (e ∷ es) x r h = by (e.row == r) (there-push es x r) h
    where
      by : (b : Bool) → (has_row es r ≡ true → has_row (es ++ x ∷ []) r ≡ true) → (b || has_row es r) ≡ true → (b || has_row (es ++ x ∷ []) r) ≡ true
      by true rest h = refl
      by false rest h = rest h

  pub new-push : (es : List (Entry n)) (x : Entry n) → has_row (es ++ x ∷ []) x.row ≡ true
  new-push [] x = or_left (x.row == x.row) false (eq-eqb x.row x.row refl)
  new-push (e ∷ es) x = or_right (e.row == x.row) _ (new-push es x)

  -- after a merge another row is still there, and so is the new one
  there-merged : (old row : ℕ) (bytes : List ℕ) (given : List Bool) (es : List (Entry n)) (r : ℕ)
      → has_row es r ≡ true → (old == r) ≡ false → has_row (merged old row bytes given es) r ≡ true
  there-merged old row bytes given [] r h ne = absurd (cc)
  there-merged old row bytes given (e ∷ es) r h ne =
      elim (eqb e.row old) as (λ b. eqb e.row old ≡ b → has_row (cond b (laid_on row bytes given e ∷ es) (e ∷ merged old row bytes given es)) r ≡ true) [
        | true ↦ λ is. or_right (row == r) _ (rest (e.row == r) (subst (λ a. (a == r) ≡ false) (sym (eqb-true e.row old is)) ne) h)
        | false ↦ λ is. more (e.row == r) (λ k. there-merged old row bytes given es r k ne) h
      ] refl
    where
      rest : (b : Bool) → b ≡ false → (b || has_row es r) ≡ true → has_row es r ≡ true
      rest b ne h = grind arith

      more : (b : Bool) → (has_row es r ≡ true → has_row (merged old row bytes given es) r ≡ true) → (b || has_row es r) ≡ true → (b || has_row (merged old row bytes given es) r) ≡ true
      more true go h = refl
      more false go h = go h

  pub new-merged : (old row : ℕ) (bytes : List ℕ) (given : List Bool) (es : List (Entry n)) → has_row es old ≡ true → has_row (merged old row bytes given es) row ≡ true
  new-merged old row bytes given [] h = absurd (cc)
  new-merged old row bytes given (e ∷ es) h = by (eqb e.row old) (new-merged old row bytes given es) h
    where
      by : (b : Bool) → (has_row es old ≡ true → has_row (merged old row bytes given es) row ≡ true) → (b || has_row es old) ≡ true
          → has_row (cond b (laid_on row bytes given e ∷ es) (e ∷ merged old row bytes given es)) row ≡ true
      by true go h = or_left (row == row) _ (eq-eqb row row refl)
      by false go h = or_right (e.row == row) _ (go h)

-- a read of this row waits, and is owed these bytes
abbrev pub Awaits : List Awaited → ℕ → List ℕ → Type 0
Awaits [] row owed = ⊥
Awaits (w ∷ ws) row owed = ((w.row ≡ row) × (w.newest ≡ owed)) ⊎ Awaits ws row owed

awaits-push : (ws : List Awaited) (w : Awaited) (row : ℕ) (owed : List ℕ) → Awaits ws row owed → Awaits (ws ++ w ∷ []) row owed
awaits-push [] w row owed a = absurd a
awaits-push (v ∷ ws) w row owed (inl a) = inl a
awaits-push (v ∷ ws) w row owed (inr a) = inr (awaits-push ws w row owed a)

pub awaits-new : (ws : List Awaited) (w : Awaited) → Awaits (ws ++ w ∷ []) w.row w.newest
awaits-new [] w = inl (refl, refl)
awaits-new (v ∷ ws) w = inr (awaits-new ws w)

pub awaits-has : (ws : List Awaited) (row : ℕ) (owed : List ℕ) → Awaits ws row owed → has_wait ws row ≡ true
awaits-has [] row owed a = absurd a
awaits-has (w ∷ ws) row owed (inl a) = or_left (w.row == row) _ (eq-eqb w.row row a.0)
awaits-has (w ∷ ws) row owed (inr a) = or_right (w.row == row) _ (awaits-has ws row owed a)

module _ {n m : ℕ} (shape : BankShape) where
  -- an accepted write stands in the queue, or has left it
  abbrev pub WriteFate : List (TimedEvent n m) → ℕ → Type 0
  WriteFate zs row = (has_row (queue shape (core zs)) row ≡ true) ⊎ IsLeft (outcome_of shape zs row)

  -- a read waits, or is settled
  abbrev pub ReadFate : List (TimedEvent n m) → ℕ → List ℕ → Type 0
  ReadFate zs row owed = Awaits (waits shape (core zs)) row owed ⊎ IsSettled owed (outcome_of shape zs row)

  -- these after one more event
  abbrev pub WriteFateBy : List (TimedEvent n m) → ℕ → Happens n → ℕ → Type 0
  WriteFateBy zs tick h row = (has_row (queue shape (core_of h (core zs))) row ≡ true) ⊎ IsLeft (unwrap_or (outcome_with shape zs h tick row) (outcome_of shape zs row))

  abbrev pub ReadFateBy : List (TimedEvent n m) → ℕ → Happens n → ℕ → List ℕ → Type 0
  ReadFateBy zs tick h row owed = Awaits (waits shape (core_of h (core zs))) row owed ⊎ IsSettled owed (unwrap_or (outcome_with shape zs h tick row) (outcome_of shape zs row))

module _ {n m : ℕ} (shape : BankShape) (pace : Pace) (e : ℕ) where
  merged_fate : (zs : List (TimedEvent n m)) (tick at line old row : ℕ) (bytes : List ℕ) (given : List Bool)
      → has_row (queue shape (core zs)) row ≡ true → WriteFateBy shape zs tick (Core (Write at line bytes given (wrote.Merged old))) row
  merged_fate zs tick at line old row bytes given h =
      elim (eqb old row) as (λ b. eqb old row ≡ b → (has_row (merged old at bytes given (queue shape (core zs))) row ≡ true) ⊎ IsLeft (unwrap_or (cond b (Some (out.Merged tick)) None) (outcome_of shape zs row))) [
        | true ↦ λ is. inr tt
        | false ↦ λ is. inl (there-merged old at bytes given (queue shape (core zs)) row h is)
      ] refl

  stored_fate : (zs : List (TimedEvent n m)) (tick at place row : ℕ) (es : List (Entry n)) → IsHead es at → has_row es row ≡ true
      → (has_row (drop 1 es) row ≡ true) ⊎ IsLeft (unwrap_or (on_row at row (out.Stored tick place)) (outcome_of shape zs row))
  stored_fate zs tick at place row [] head h = absurd head
  stored_fate zs tick at place row (f ∷ es) head h = by (eqb at row) refl
    where
      rest : (b : Bool) → b ≡ false → (b || has_row es row) ≡ true → has_row es row ≡ true
      rest b ne h = grind arith

      by : (b : Bool) → eqb at row ≡ b → (has_row es row ≡ true) ⊎ IsLeft (unwrap_or (cond b (Some (out.Stored tick place)) None) (outcome_of shape zs row))
      by true is = inr tt
      by false is = inl (rest (f.row == row) (subst (λ a. (a == row) ≡ false) head is) h)

  -- what stands before an event stands after it, or leaves by it
  standing_fate : (zs : List (TimedEvent n m)) (x : TimedEvent n m) (h : Happens n) (row : ℕ) → MayCome shape pace e zs x h
      → has_row (queue shape (core zs)) row ≡ true → WriteFateBy shape zs x.tick h row
  standing_fate zs x (Core (Write at line bytes given wrote.Accepted)) row may h = inl (there-push (queue shape (core zs)) _ row h)
  standing_fate zs x (Core (Write at line bytes given (wrote.Merged old))) row may h = merged_fate zs x.tick at line old row bytes given h
  standing_fate zs x (Core (Begin (did.Stored at place))) row may h = stored_fate zs x.tick at place row (queue shape (core zs)) (stored-head shape (core zs) at place may.may.1) h
  standing_fate zs x (Core (Begin _)) row may h = inl (row-begun (due_after shape (core zs)) (newest (core zs)) (queue shape (core zs)) row ∙ h)
  standing_fate zs x (Core (Iterate (did.Stored at place))) row may h = stored_fate zs x.tick at place row (queue shape (core zs)) (stored-head shape (core zs) at place may.may.1) h
  standing_fate zs x _ row may h = inl h

  served_fate : (zs : List (TimedEvent n m)) (tick row : ℕ) (owed : List ℕ) (ws : List Awaited) (answer : Served n) → IsServed shape (core zs) ws answer
      → Awaits ws row owed → Awaits (drop 1 ws) row owed ⊎ IsSettled owed (unwrap_or (on_row answer.row row (out.Read tick answer.place answer.bytes)) (outcome_of shape zs row))
  served_fate zs tick row owed [] answer s a = absurd a
  served_fate zs tick row owed (w ∷ ws) answer s (inr a) = inl a
  served_fate zs tick row owed (w ∷ ws) answer s (inl a) =
      inr (subst (λ b. IsSettled owed (unwrap_or (cond b (Some (out.Read tick answer.place answer.bytes)) None) (outcome_of shape zs row)))
      (sym (eq-eqb answer.row row (s.0 ∙ a.0))) (s.2 ∙ a.1))

  lost_fate : (zs : List (TimedEvent n m)) (tick row : ℕ) (owed : List ℕ) (b : Bool) → b ≡ true
      → IsSettled owed (unwrap_or (cond b (Some (out.Lost tick)) None) (outcome_of shape zs row))
  lost_fate zs tick row owed b is = grind arith

  waiting_fate : (zs : List (TimedEvent n m)) (x : TimedEvent n m) (h : Happens n) (row : ℕ) (owed : List ℕ) → MayCome shape pace e zs x h
      → Awaits (waits shape (core zs)) row owed → ReadFateBy shape zs x.tick h row owed
  waiting_fate zs x (Core (Read at line came.Waiting)) row owed may a = inl (awaits-push (waits shape (core zs)) _ row owed a)
  waiting_fate zs x (Core (Serve answer)) row owed may a = served_fate zs x.tick row owed (waits shape (core zs)) answer may.may a
  waiting_fate zs x (Core (Cut tearing)) row owed may a = inr (lost_fate zs x.tick row owed (has_wait (waits shape (core zs)) row) (awaits-has (waits shape (core zs)) row owed a))
  waiting_fate zs x _ row owed may a = inl a

  -- over any later events
  pub write_fate : (later zs : List (TimedEvent n m)) (row : ℕ) → Lawful shape pace e (later ++ zs) → WriteFate shape zs row → WriteFate shape (later ++ zs) row
  write_fate [] zs row l f = f
  write_fate (x ∷ later) zs row l f = by (write_fate later zs row l.1 f)
    where
      by : WriteFate shape (later ++ zs) row → WriteFate shape (x ∷ later ++ zs) row
      by (inl there) = standing_fate (later ++ zs) x x.happens row l.0 there
      by (inr left) =
          inr (subst (λ (o : Outcome n). IsLeft o) (sym (step_stays shape pace e (later ++ zs) x x.happens row l.1 (opens shape pace e (later ++ zs) l.1) l.0 (left-set (outcome_of shape (later ++ zs) row) left))) left)

  pub read_fate : (later zs : List (TimedEvent n m)) (row : ℕ) (owed : List ℕ) → Lawful shape pace e (later ++ zs) → ReadFate shape zs row owed → ReadFate shape (later ++ zs) row owed
  read_fate [] zs row owed l f = f
  read_fate (x ∷ later) zs row owed l f = by (read_fate later zs row owed l.1 f)
    where
      by : ReadFate shape (later ++ zs) row owed → ReadFate shape (x ∷ later ++ zs) row owed
      by (inl a) = waiting_fate (later ++ zs) x x.happens row owed l.0 a
      by (inr settled) =
          inr (subst (λ (o : Outcome n). IsSettled owed o)
          (sym (step_stays shape pace e (later ++ zs) x x.happens row l.1 (opens shape pace e (later ++ zs) l.1) l.0 (settled-set owed (outcome_of shape (later ++ zs) row) settled))) settled)
