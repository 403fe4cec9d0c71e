-- The event that sets the outcome of a row, and what stands until then.
use Rattle.std.proofs.Common.{◌≡◌, ◌≢◌, ◌==◌, ℕ, ◌⊎◌, inl, inr, Bool, true, false, List, [], ◌∷◌, ◌++◌, Option, Some, None, refl, sym, ap, ◌∙◌, subst, cond, eqb}
use Rattle.std.specs.Prelude.{unwrap_or}
use Rattle.result_rows.specs.declared.Outcome.{Outcome}
use Rattle.result_rows.specs.declared.Outcome.TheVariants as out
use Rattle.masked_bytes.specs.Entries.{has_row}
use Rattle.bank_shape.specs.{declared.BankShape.BankShape, declared.pace.Pace.Pace}
use Rattle.bank_model.specs.{History.{waits, queue}, Lawful.Lawful, Timing.{TimedEvent, core}}
use Rattle.bank_laws.specs.{Outcomes.{on_row, outcome_with, outcome_of}, Standing.has_wait}
use Rattle.bank_laws.proofs.{Fates.{IsLeft, IsSettled, Awaits, awaits-has, WriteFate, write_fate, ReadFate, read_fate}, Settling.{opens, step_stays}}

module _ {n : ℕ} where
  open_or_set : (o : Outcome n) → (o ≡ out.Unset) ⊎ (o ≢ out.Unset)
  open_or_set out.Unset = inl refl
  open_or_set _ = inr (λ is. absurd (cc))

  set_by : (s : Option (Outcome n)) (o : Outcome n) → o ≢ out.Unset → unwrap_or s out.Unset ≡ o → s ≡ Some o
  set_by (Some t) o set is = ap Some is
  set_by None o set is = absurd (set (sym is))

  -- an outcome of a row's own event
  pub row_set : (at row : ℕ) (t o : Outcome n) → on_row at row t ≡ Some o → ((at == row) ≡ true) × (t ≡ o)
  row_set at row t o is = by (eqb at row) is
    where
      by : (b : Bool) → ◌≡◌ {A = Option (Outcome n)} (cond b (Some t) None) (Some o) → (b ≡ true) × (t ≡ o)
      by true is = (refl, cc)
      by false is = absurd (cc)

module _ {n m : ℕ} (shape : BankShape) where
  -- the event s sets the outcome o of a row, behind the events `mid` over zs and before the events `late`
  pub record SetAt (later zs : List (TimedEvent n m)) (row : ℕ) (o : Outcome n) : Type 0 where
    pub late : List (TimedEvent n m)
    pub event : TimedEvent n m
    pub mid : List (TimedEvent n m)
    pub split : later ≡ late ++ event ∷ mid
    pub unset : outcome_of shape (mid ++ zs) row ≡ out.Unset
    pub sets : outcome_with shape (mid ++ zs) event.happens event.tick row ≡ Some o

module _ {n m : ℕ} (shape : BankShape) (pace : Pace) (e : ℕ) where
  pub setting : (later zs : List (TimedEvent n m)) (row : ℕ) (o : Outcome n) → Lawful shape pace e (later ++ zs) → outcome_of shape zs row ≡ out.Unset → o ≢ out.Unset
      → outcome_of shape (later ++ zs) row ≡ o → SetAt shape later zs row o
  setting [] zs row o l un set is = absurd (set (sym is ∙ un))
  setting (y ∷ later) zs row o l un set is = by (open_or_set (outcome_of shape (later ++ zs) row)) (λ k. setting later zs row o l.1 un set k)
    where
      by : (outcome_of shape (later ++ zs) row ≡ out.Unset) ⊎ (outcome_of shape (later ++ zs) row ≢ out.Unset) → (outcome_of shape (later ++ zs) row ≡ o → SetAt shape later zs row o)
          → SetAt shape (y ∷ later) zs row o
      by (inl k) go = record {
        late = [];
        event = y;
        mid = later;
        split = refl;
        unset = k;
        sets = set_by (outcome_with shape (later ++ zs) y.happens y.tick row) o set
            (ap (unwrap_or (outcome_with shape (later ++ zs) y.happens y.tick row)) (sym k) ∙ is);
      }
      by (inr k) go =
          let at = go (sym (step_stays shape pace e (later ++ zs) y y.happens row l.1 (opens shape pace e (later ++ zs) l.1) l.0 k) ∙ is) in
          record { late = y ∷ at.late; event = at.event; mid = at.mid; split = ap (λ (xs : List (TimedEvent n m)). y ∷ xs) at.split; unset = at.unset; sets = at.sets }

  -- what has no outcome had none before
  pub unset_before : (y : TimedEvent n m) (zs : List (TimedEvent n m)) (row : ℕ) → Lawful shape pace e (y ∷ zs) → outcome_of shape (y ∷ zs) row ≡ out.Unset → outcome_of shape zs row ≡ out.Unset
  unset_before y zs row l un = by (open_or_set (outcome_of shape zs row))
    where
      by : (outcome_of shape zs row ≡ out.Unset) ⊎ (outcome_of shape zs row ≢ out.Unset) → outcome_of shape zs row ≡ out.Unset
      by (inl k) = k
      by (inr k) = absurd (k (sym (step_stays shape pace e zs y y.happens row l.1 (opens shape pace e zs l.1) l.0 k) ∙ un))

  -- a read that has no outcome waits
  pub unset_waits : (mid zs : List (TimedEvent n m)) (row : ℕ) (owed : List ℕ) → Lawful shape pace e (mid ++ zs) → Awaits (waits shape (core zs)) row owed → outcome_of shape (mid ++ zs) row ≡ out.Unset
      → has_wait (waits shape (core (mid ++ zs))) row ≡ true
  unset_waits mid zs row owed l a un = by (read_fate shape pace e mid zs row owed l (inl a))
    where
      by : ReadFate shape (mid ++ zs) row owed → has_wait (waits shape (core (mid ++ zs))) row ≡ true
      by (inl k) = awaits-has (waits shape (core (mid ++ zs))) row owed k
      by (inr k) = absurd (subst (λ (o : Outcome n). IsSettled owed o) un k)

  -- a write that was accepted and has no outcome stands in the queue
  pub unset_stands : (mid zs : List (TimedEvent n m)) (row : ℕ) → Lawful shape pace e (mid ++ zs) → has_row (queue shape (core zs)) row ≡ true → outcome_of shape (mid ++ zs) row ≡ out.Unset
      → has_row (queue shape (core (mid ++ zs))) row ≡ true
  unset_stands mid zs row l there un = by (write_fate shape pace e mid zs row l (inl there))
    where
      by : WriteFate shape (mid ++ zs) row → has_row (queue shape (core (mid ++ zs))) row ≡ true
      by (inl k) = k
      by (inr k) = absurd (subst (λ (o : Outcome n). IsLeft o) un k)
