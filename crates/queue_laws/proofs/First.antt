-- First in, first out: while the head of the queue stands, no other row is stored.
use Rattle.std.proofs.Common.{◌≡◌, ◌≢◌, ℕ, ◌≤◌, ◌==◌, ◌⊎◌, inl, inr, Bool, true, false, List, [], ◌∷◌, ◌++◌, Option, Some, None, refl, sym, ap, ◌∙◌, subst, arith, cond, eqb, eqb-true, eq-eqb}
use Rattle.std.specs.Prelude.{unwrap_or}
use Rattle.result_rows.specs.declared.Outcome.{Outcome}
use Rattle.result_rows.specs.declared.Outcome.TheVariants as out
use Rattle.masked_bytes.specs.{Entries.{merged, laid_on}, declared.entry.Entry.Entry}
use Rattle.bank_shape.specs.{declared.BankShape.BankShape, declared.pace.Pace.Pace}
use Rattle.bank_shape.specs.declared.answer.WriteAnswer.TheVariants as wrote
use Rattle.bank_shape.specs.declared.answer.ReadAnswer.TheVariants as came
use Rattle.bank_shape.specs.declared.answer.Step.TheVariants as did
use Rattle.bank_model.specs.{Events.{Write, Read, Serve, Begin, Iterate, Cut, newest}, History.{begun, queue, waits, due_after}, Lawful.{Lawful, MayCome}}
use Rattle.bank_model.specs.Timing.{Happens, Core, TimedEvent, core, core_of, last_tick}
use Rattle.bank_laws.{specs.Outcomes.{on_row, outcome_with, outcome_of}, specs.Standing.has_wait, specs.Ticks.ends_action, proofs.Answering.{IsHead, stored-head}}
use Rattle.bank_laws.proofs.{Settling.{opens, step_stays}, Ticks.last_tick-rises, Wears.{not_stored, lost_not_stored, stored_tick, stored_by}}

module _ {n : ℕ} where
  head-pushed : (es : List (Entry n)) (x : Entry n) (row : ℕ) → IsHead es row → IsHead (es ++ x ∷ []) row
  head-pushed es x row h = grind arith

  head-begun : (due : Option ℕ) (fill : ℕ → List ℕ) (es : List (Entry n)) (row : ℕ) → IsHead es row → IsHead (begun due fill es) row
  head-begun due fill es row h = grind arith

  head-kept : (old new : ℕ) (bytes : List ℕ) (given : List Bool) (es : List (Entry n)) (row : ℕ) → (old == row) ≡ false → IsHead es row → IsHead (merged old new bytes given es) row
  head-kept old new bytes given [] row ne h = absurd h
  head-kept old new bytes given (e ∷ es) row ne h = by (eqb e.row old) refl
    where
      by : (b : Bool) → eqb e.row old ≡ b → IsHead (cond b (laid_on new bytes given e ∷ es) (e ∷ merged old new bytes given es)) row
      by true is = absurd (cc (ne, subst (λ r. (old == r) ≡ true) (sym (h ∙ eqb-true e.row old is)) (eq-eqb old old refl)))
      by false is = h

  -- a row left the queue at a tick: it was stored then, or merged
  abbrev pub LeftAt : Outcome n → ℕ → Type 0
  LeftAt o at = (o ≡ out.Merged at) ⊎ ((place : ℕ) × (o ≡ out.Stored at place))

  left_at-set : (o : Outcome n) (at : ℕ) → LeftAt o at → o ≢ out.Unset
  left_at-set o at (inl is) un = let both : ◌≡◌ {A = Outcome n} (out.Merged at) out.Unset = sym is ∙ un in absurd (cc)
  left_at-set o at (inr is) un = let both : ◌≡◌ {A = Outcome n} (out.Stored at is.0) out.Unset = sym is.1 ∙ un in absurd (cc)

module _ {n m : ℕ} (shape : BankShape) (now : List (TimedEvent n m)) where
  -- none of the rows that had no outcome is stored
  abbrev pub NoneStored : (ℕ → Outcome n) → Type 0
  NoneStored o = (row u p : ℕ) → outcome_of shape now row ≡ out.Unset → o row ≡ out.Stored u p → ⊥

  -- none is stored below a tick
  abbrev pub NoneBelow : ℕ → (ℕ → Outcome n) → Type 0
  NoneBelow at o = (row u p : ℕ) → outcome_of shape now row ≡ out.Unset → o row ≡ out.Stored u p → at ≤ u

  -- the head stands, and none of those rows is stored; or it left, and none was stored before
  abbrev pub First : List (TimedEvent n m) → ℕ → Type 0
  First zs head =
      (IsHead (queue shape (core zs)) head × NoneStored (outcome_of shape zs))
      ⊎ ((at : ℕ) × LeftAt (outcome_of shape zs head) at × (at ≤ last_tick zs) × NoneBelow at (outcome_of shape zs))

  abbrev FirstBy : List (TimedEvent n m) → ℕ → Happens n → ℕ → Type 0
  FirstBy zs tick h head =
      (IsHead (queue shape (core_of h (core zs))) head × NoneStored (λ row. unwrap_or (outcome_with shape zs h tick row) (outcome_of shape zs row)))
      ⊎ ((at : ℕ) × LeftAt (unwrap_or (outcome_with shape zs h tick head) (outcome_of shape zs head)) at × (at ≤ tick)
      × NoneBelow at (λ row. unwrap_or (outcome_with shape zs h tick row) (outcome_of shape zs row)))

module _ {n m : ℕ} (shape : BankShape) (pace : Pace) (e : ℕ) (now : List (TimedEvent n m)) where
  merge_first : (zs : List (TimedEvent n m)) (x : TimedEvent n m) (at line old head : ℕ) (bytes : List ℕ) (given : List Bool) → IsHead (queue shape (core zs)) head → NoneStored shape now (outcome_of shape zs)
      → FirstBy shape now zs x.tick (Core (Write at line bytes given (wrote.Merged old))) head
  merge_first zs x at line old head bytes given h none = by (eqb old head) refl
    where
      still : NoneStored shape now (λ row. unwrap_or (on_row old row (out.Merged x.tick)) (outcome_of shape zs row))
      still row u p unset s = none row u p unset (not_stored old row (out.Merged x.tick) (outcome_of shape zs row) u p (λ is. absurd (cc)) s)

      by : (b : Bool) → eqb old head ≡ b → FirstBy shape now zs x.tick (Core (Write at line bytes given (wrote.Merged old))) head
      by true is = inr (x.tick, inl (ap (λ b. unwrap_or (cond b (Some (out.Merged x.tick)) None) (outcome_of shape zs head)) is), omega arith, λ row u p unset s. absurd (still row u p unset s))
      by false is = inl (head-kept old at bytes given (queue shape (core zs)) head is h, still)

  stored_first : (zs : List (TimedEvent n m)) (tick at place head : ℕ) (es : List (Entry n)) → IsHead es at → IsHead es head → NoneStored shape now (outcome_of shape zs)
      → (v : ℕ) × LeftAt (unwrap_or (on_row at head (out.Stored tick place)) (outcome_of shape zs head)) v × (v ≤ tick) × NoneBelow shape now v (λ row. unwrap_or (on_row at row (out.Stored tick place)) (outcome_of shape zs row))
  stored_first zs tick at place head [] here h none = absurd h
  stored_first zs tick at place head (f ∷ es) here h none = (
    tick,
    inr (place, ap (λ b. unwrap_or (cond b (Some (out.Stored tick place)) None) (outcome_of shape zs head)) (subst (λ r. (at == r) ≡ true) (here ∙ sym h) (eq-eqb at at refl))),
    omega arith,
    λ row u p unset s. by row u p unset (stored_tick at row tick place (outcome_of shape zs row) u p s),
  )
    where
      by : (row u p : ℕ) → outcome_of shape now row ≡ out.Unset → ((true ≡ true) × (u ≡ tick)) ⊎ (outcome_of shape zs row ≡ out.Stored u p) → tick ≤ u
      by row u p unset (inl is) = omega (arith, is.1)
      by row u p unset (inr s) = absurd (none row u p unset s)

  head_first : (zs : List (TimedEvent n m)) (x : TimedEvent n m) (h : Happens n) (head : ℕ) → MayCome shape pace e zs x h → IsHead (queue shape (core zs)) head → NoneStored shape now (outcome_of shape zs) → FirstBy shape now zs x.tick h head
  head_first zs x (Core (Write at line bytes given wrote.Accepted)) head may h none = inl (head-pushed (queue shape (core zs)) _ head h, none)
  head_first zs x (Core (Write at line bytes given (wrote.Merged old))) head may h none = merge_first zs x at line old head bytes given h none
  head_first zs x (Core (Write at line bytes given wrote.Full)) head may h none = inl (h, λ row u p unset s. none row u p unset (not_stored at row (out.Full x.tick) (outcome_of shape zs row) u p (λ is. absurd (cc)) s))
  head_first zs x (Core (Write at line bytes given wrote.Exhausted)) head may h none = inl (h, λ row u p unset s. none row u p unset (not_stored at row (out.Worn x.tick) (outcome_of shape zs row) u p (λ is. absurd (cc)) s))
  head_first zs x (Core (Read at line came.Busy)) head may h none = inl (h, λ row u p unset s. none row u p unset (not_stored at row (out.Busy x.tick) (outcome_of shape zs row) u p (λ is. absurd (cc)) s))
  head_first zs x (Core (Read at line (came.Forwarded bytes))) head may h none =
      inl (h, λ row u p unset s. none row u p unset (not_stored at row (out.Forwarded x.tick bytes) (outcome_of shape zs row) u p (λ is. absurd (cc)) s))
  head_first zs x (Core (Serve answer)) head may h none =
      inl (h, λ row u p unset s. none row u p unset (not_stored answer.row row (out.Read x.tick answer.place answer.bytes) (outcome_of shape zs row) u p (λ is. absurd (cc)) s))
  head_first zs x (Core (Begin (did.Stored at place))) head may h none = inr (stored_first zs x.tick at place head (queue shape (core zs)) (stored-head shape (core zs) at place may.may.1) h none)
  head_first zs x (Core (Begin _)) head may h none = inl (head-begun (due_after shape (core zs)) (newest (core zs)) (queue shape (core zs)) head h, none)
  head_first zs x (Core (Iterate (did.Stored at place))) head may h none = inr (stored_first zs x.tick at place head (queue shape (core zs)) (stored-head shape (core zs) at place may.may.1) h none)
  head_first zs x (Core (Cut tearing)) head may h none = inl (h, λ row u p unset s. none row u p unset (lost_not_stored (has_wait (waits shape (core zs)) row) x.tick (outcome_of shape zs row) u p s))
  head_first zs x _ head may h none = inl (h, none)

  first_step : (zs : List (TimedEvent n m)) (x : TimedEvent n m) (h : Happens n) (head : ℕ) → Lawful shape pace e zs → MayCome shape pace e zs x h → last_tick zs ≤ x.tick → First shape now zs head → FirstBy shape now zs x.tick h head
  first_step zs x h head l may rises (inl there) = head_first zs x h head may there.0 there.1
  first_step zs x h head l may rises (inr left) = inr (
    left.0,
    subst (λ (o : Outcome n). LeftAt o left.0) (sym (step_stays shape pace e zs x h head l (opens shape pace e zs l) may (left_at-set (outcome_of shape zs head) left.0 left.1))) left.1,
    omega (arith, left.2, rises),
    λ row u p unset s. by row u p unset (stored_by shape pace e zs x h row u p s),
  )
    where
      by : (row u p : ℕ) → outcome_of shape now row ≡ out.Unset → ((ends_action h ≡ true) × (u ≡ x.tick)) ⊎ (outcome_of shape zs row ≡ out.Stored u p) → left.0 ≤ u
      by row u p unset (inl is) = omega (arith, left.2, rises, is.1)
      by row u p unset (inr s) = left.3 row u p unset s

  -- over any later events
  pub first : (later zs : List (TimedEvent n m)) (head : ℕ) → 1 ≤ pace.read → 1 ≤ pace.iter → Lawful shape pace e (later ++ zs) → First shape now zs head → First shape now (later ++ zs) head
  first [] zs head r i l f = f
  first (x ∷ later) zs head r i l f = first_step (later ++ zs) x x.happens head l.1 l.0 (last_tick-rises shape pace e (later ++ zs) x r i l) (first later zs head r i l.1 f)

  -- as it begins
  pub first_now : (head : ℕ) → IsHead (queue shape (core now)) head → First shape now now head
  first_now head h = inl (h, λ row u p unset s. let both : ◌≡◌ {A = Outcome n} (out.Stored u p) out.Unset = sym s ∙ unset in absurd (cc))
