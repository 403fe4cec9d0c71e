-- Once a worn line found no spare nothing more is stored, and every write is refused.
use Rattle.std.proofs.Common.{◌≡◌, ◌≢◌, ℕ, ◌<◌, ◌≤◌, ◌&&◌, ◌⊎◌, inl, inr, Bool, true, false, List, [], ◌∷◌, ◌++◌, Option, Some, None, length, refl, sym, ap, ◌∙◌, subst, arith, cond, eqb, append_assoc}
use Rattle.std.{specs.List.list_any, specs.Prelude.{unwrap_or, nat_le}, proofs.lemmas.Bool.{lt-leb, and_left, and_right, or_from}, proofs.lemmas.List.Folds.list_any-append}
use Rattle.result_rows.specs.declared.Outcome.{Outcome}
use Rattle.result_rows.specs.declared.Outcome.TheVariants as out
use Rattle.masked_bytes.{specs.Entries.candidate, proofs.Truth.or_rest}
use Rattle.row_rules.specs.{Answers.{is_worn, accepts}, Wearing.{worn_row, worn_by}, declared.Row.Row}
use Rattle.bank_shape.specs.{declared.BankShape.BankShape, declared.Work.TheVariants.Nothing, declared.answer.WriteAnswer.WriteAnswer, declared.pace.Pace.Pace}
use Rattle.bank_shape.specs.declared.answer.WriteAnswer.TheVariants as wrote
use Rattle.bank_shape.specs.declared.answer.ReadAnswer.TheVariants as came
use Rattle.bank_shape.specs.declared.answer.Step.TheVariants as did
use Rattle.bank_model.specs.{After.{due_work, work_after}, Answers.{head_busy_after, accept_answer, write_answer, IsDone}}
use Rattle.bank_model.specs.{Events.{BankEvent, Write, Read, Serve, Begin, Iterate, Cut}, History.{queue, waits, has_exhausted, due_after}, Lawful.{Lawful, MayCome}}
use Rattle.bank_model.specs.Timing.{Happens, Core, Regs, TimedEvent, core, core_of, last_tick}
use Rattle.bank_laws.specs.{Outcomes.{on_row, outcome_with, outcome_of, ended, row_with, rows_from}, Settling.AreOpen, Standing.has_wait, Ticks.ends_action}
use Rattle.bank_laws.proofs.{Ending.{Onwards, IsOutcome, write_outcome, outcome-accepts}, Entries.either, Serves.{may_at, onwards_at}, Settling.lawful_before}
use Rattle.bank_laws.proofs.{Ticks.{last_tick-rises, last-below}, Walking.rows_after}

module _ {n : ℕ} where
  -- another outcome than a store leaves a store as it was
  pub not_stored : (at row : ℕ) (t o : Outcome n) (u p : ℕ) → t ≢ out.Stored u p → unwrap_or (on_row at row t) o ≡ out.Stored u p → o ≡ out.Stored u p
  not_stored at row t o u p ne s = by (eqb at row) s
    where
      by : (b : Bool) → unwrap_or (cond b (Some t) None) o ≡ out.Stored u p → o ≡ out.Stored u p
      by true s = absurd (ne s)
      by false s = s

  pub lost_not_stored : (b : Bool) (tick : ℕ) (o : Outcome n) (u p : ℕ) → unwrap_or (cond b (Some (out.Lost tick)) None) o ≡ out.Stored u p → o ≡ out.Stored u p
  lost_not_stored b tick o u p s = grind arith

  pub stored_tick : (at row tick place : ℕ) (o : Outcome n) (u p : ℕ) → unwrap_or (on_row at row (out.Stored tick place)) o ≡ out.Stored u p → ((true ≡ true) × (u ≡ tick)) ⊎ (o ≡ out.Stored u p)
  stored_tick at row tick place o u p s = by (eqb at row) s
    where
      by : (b : Bool) → unwrap_or (cond b (Some (out.Stored tick place)) None) o ≡ out.Stored u p → ((true ≡ true) × (u ≡ tick)) ⊎ (o ≡ out.Stored u p)
      by true s = inl (refl, cc)
      by false s = inr s

  -- an accepted outcome is not worn
  accepted_not_worn : (o : Outcome n) → accepts o ≡ true → is_worn o ≡ false
  accepted_not_worn o a = grind arith

  -- a worn outcome comes of a bank that is exhausted
  pub worn_outcome : (tick : ℕ) (answer : WriteAnswer) (o : Outcome n) → IsOutcome tick answer o → is_worn o ≡ true → answer ≡ wrote.Exhausted
  worn_outcome tick wrote.Full o is w = absurd (cc (ap is_worn is))
  worn_outcome tick wrote.Exhausted o is w = refl
  worn_outcome tick answer o is w = absurd (cc (accepted_not_worn o (outcome-accepts tick answer o is)))

  -- an exhausted bank stores nothing
  pub exhausted-stores_none : (shape : BankShape) (h : List (BankEvent n)) (row place : ℕ) → has_exhausted h ≡ true → IsDone shape h (work_after shape h) (did.Stored row place) → ⊥
  exhausted-stores_none shape h row place ex d = by (has_exhausted h) ex d
    where
      by : (b : Bool) → b ≡ true → IsDone shape h (cond b Nothing (due_work shape h (due_after shape h) (queue shape h))) (did.Stored row place) → ⊥
      by b ex d = grind arith

  pub exhausted-more : (event : BankEvent n) (h : List (BankEvent n)) → has_exhausted h ≡ true → has_exhausted (event ∷ h) ≡ true
  exhausted-more event h ex = grind arith

  -- a write is refused as worn exactly where the bank is exhausted
  pub refused-exhausted : (shape : BankShape) (h : List (BankEvent n)) (line : ℕ) → wrote.Exhausted ≡ write_answer shape h line → has_exhausted h ≡ true
  refused-exhausted shape h line a = by (has_exhausted h) (candidate (head_busy_after shape h) (queue shape h) line) a
    where
      full : (b : Bool) → wrote.Exhausted ≡ cond b wrote.Full wrote.Accepted → false ≡ true
      full b a = grind arith

      by : (b : Bool) (c : Option ℕ) → wrote.Exhausted ≡ cond b wrote.Exhausted (accept_answer shape h c) → b ≡ true
      by true c a = refl
      by false (Some at) a = absurd (cc)
      by false None a = full (eqb (length (queue shape h)) shape.writes) a

  pub exhausted-refused : (shape : BankShape) (h : List (BankEvent n)) (line : ℕ) (answer : WriteAnswer) → answer ≡ write_answer shape h line → has_exhausted h ≡ true → answer ≡ wrote.Exhausted
  exhausted-refused shape h line answer a ex =
      a ∙ ap (λ b. cond b wrote.Exhausted (accept_answer shape h (candidate (head_busy_after shape h) (queue shape h) line))) ex

module _ {n m : ℕ} (shape : BankShape) (pace : Pace) (e : ℕ) where
  -- what an event leaves stored was stored before, or is stored at its tick
  pub stored_by : (zs : List (TimedEvent n m)) (x : TimedEvent n m) (h : Happens n) (row u p : ℕ) → unwrap_or (outcome_with shape zs h x.tick row) (outcome_of shape zs row) ≡ out.Stored u p
      → ((ends_action h ≡ true) × (u ≡ x.tick)) ⊎ (outcome_of shape zs row ≡ out.Stored u p)
  stored_by zs x (Core (Write at line bytes given (wrote.Merged old))) row u p s = inr (not_stored old row _ _ u p (λ is. absurd (cc)) s)
  stored_by zs x (Core (Write at line bytes given wrote.Full)) row u p s = inr (not_stored at row _ _ u p (λ is. absurd (cc)) s)
  stored_by zs x (Core (Write at line bytes given wrote.Exhausted)) row u p s = inr (not_stored at row _ _ u p (λ is. absurd (cc)) s)
  stored_by zs x (Core (Read at line came.Busy)) row u p s = inr (not_stored at row _ _ u p (λ is. absurd (cc)) s)
  stored_by zs x (Core (Read at line (came.Forwarded bytes))) row u p s = inr (not_stored at row _ _ u p (λ is. absurd (cc)) s)
  stored_by zs x (Core (Serve answer)) row u p s = inr (not_stored answer.row row _ _ u p (λ is. absurd (cc)) s)
  stored_by zs x (Core (Begin (did.Stored at place))) row u p s = stored_tick at row x.tick place _ u p s
  stored_by zs x (Core (Iterate (did.Stored at place))) row u p s = stored_tick at row x.tick place _ u p s
  stored_by zs x (Core (Cut tearing)) row u p s = inr (lost_not_stored (has_wait (waits shape (core zs)) row) x.tick _ u p s)
  stored_by zs x _ row u p s = inr s

  -- a store is no later than the last event
  pub stored_up_to : (zs : List (TimedEvent n m)) (row u p : ℕ) → 1 ≤ pace.read → 1 ≤ pace.iter → Lawful shape pace e zs → outcome_of shape zs row ≡ out.Stored u p → u ≤ last_tick zs
  stored_up_to [] row u p r i l s = absurd (cc)
  stored_up_to (x ∷ zs) row u p r i l s = by (stored_by zs x x.happens row u p s) (stored_up_to zs row u p r i l.1) (last_tick-rises shape pace e zs x r i l)
    where
      by : ((ends_action x.happens ≡ true) × (u ≡ x.tick)) ⊎ (outcome_of shape zs row ≡ out.Stored u p) → (outcome_of shape zs row ≡ out.Stored u p → u ≤ last_tick zs) → last_tick zs ≤ x.tick → u ≤ x.tick
      by (inl is) before rises = omega (arith, is.1)
      by (inr s) before rises = omega (arith, before s, rises)

  -- an exhausted bank's event stores nothing
  kept_by : (zs : List (TimedEvent n m)) (x : TimedEvent n m) (h : Happens n) (row u p : ℕ) → MayCome shape pace e zs x h → has_exhausted (core zs) ≡ true
      → unwrap_or (outcome_with shape zs h x.tick row) (outcome_of shape zs row) ≡ out.Stored u p → outcome_of shape zs row ≡ out.Stored u p
  kept_by zs x (Core (Write at line bytes given (wrote.Merged old))) row u p may ex s = not_stored old row _ _ u p (λ is. absurd (cc)) s
  kept_by zs x (Core (Write at line bytes given wrote.Full)) row u p may ex s = not_stored at row _ _ u p (λ is. absurd (cc)) s
  kept_by zs x (Core (Write at line bytes given wrote.Exhausted)) row u p may ex s = not_stored at row _ _ u p (λ is. absurd (cc)) s
  kept_by zs x (Core (Read at line came.Busy)) row u p may ex s = not_stored at row _ _ u p (λ is. absurd (cc)) s
  kept_by zs x (Core (Read at line (came.Forwarded bytes))) row u p may ex s = not_stored at row _ _ u p (λ is. absurd (cc)) s
  kept_by zs x (Core (Serve answer)) row u p may ex s = not_stored answer.row row _ _ u p (λ is. absurd (cc)) s
  kept_by zs x (Core (Begin (did.Stored at place))) row u p may ex s = absurd (exhausted-stores_none shape (core zs) at place ex may.may.1)
  kept_by zs x (Core (Iterate (did.Stored at place))) row u p may ex s = absurd (exhausted-stores_none shape (core zs) at place ex may.may.1)
  kept_by zs x (Core (Cut tearing)) row u p may ex s = lost_not_stored (has_wait (waits shape (core zs)) row) x.tick _ u p s
  kept_by zs x _ row u p may ex s = s

  exhausted_on : (h : Happens n) (zs : List (TimedEvent n m)) → has_exhausted (core zs) ≡ true → has_exhausted (core_of h (core zs)) ≡ true
  exhausted_on (Core event) zs ex = exhausted-more event (core zs) ex
  exhausted_on (Regs event) zs ex = ex

  pub exhausted_later : (later zs : List (TimedEvent n m)) → has_exhausted (core zs) ≡ true → has_exhausted (core (later ++ zs)) ≡ true
  exhausted_later [] zs ex = ex
  exhausted_later (x ∷ later) zs ex = exhausted_on x.happens (later ++ zs) (exhausted_later later zs ex)

  -- what is stored in the end was stored before the bank was exhausted
  pub stored_before_exhausted : (later zs : List (TimedEvent n m)) (row u p : ℕ) → Lawful shape pace e (later ++ zs) → has_exhausted (core zs) ≡ true
      → outcome_of shape (later ++ zs) row ≡ out.Stored u p → outcome_of shape zs row ≡ out.Stored u p
  stored_before_exhausted [] zs row u p l ex s = s
  stored_before_exhausted (x ∷ later) zs row u p l ex s =
      stored_before_exhausted later zs row u p l.1 ex (kept_by (later ++ zs) x x.happens row u p l.0 (exhausted_later later zs ex) s)

  -- an event exhausts the bank as it ends an action, or the bank was exhausted before
  exhausted_by : (zs : List (TimedEvent n m)) (h : Happens n) → has_exhausted (core_of h (core zs)) ≡ true
      → ((ends_action h ≡ true) × ((tick row : ℕ) → outcome_with shape zs h tick row ≡ None)) ⊎ (has_exhausted (core zs) ≡ true)
  exhausted_by zs (Core (Begin did.Exhausted)) ex = inl (refl, λ tick row. refl)
  exhausted_by zs (Core (Iterate did.Exhausted)) ex = inl (refl, λ tick row. refl)
  exhausted_by zs _ ex = inr ex

  -- what an exhausted bank had stored it stored below its last event
  pub stored_below_exhausted : (zs : List (TimedEvent n m)) (row u p : ℕ) → 1 ≤ pace.read → 1 ≤ pace.iter → Lawful shape pace e zs → has_exhausted (core zs) ≡ true
      → outcome_of shape zs row ≡ out.Stored u p → u < last_tick zs
  stored_below_exhausted [] row u p r i l ex s = absurd (cc)
  stored_below_exhausted (x ∷ zs) row u p r i l ex s =
      by (exhausted_by zs x.happens ex) (λ ex before. stored_below_exhausted zs row u p r i l.1 ex before) (last_tick-rises shape pace e zs x r i l)
    where
      by : ((ends_action x.happens ≡ true) × ((tick row : ℕ) → outcome_with shape zs x.happens tick row ≡ None)) ⊎ (has_exhausted (core zs) ≡ true)
          → (has_exhausted (core zs) ≡ true → outcome_of shape zs row ≡ out.Stored u p → u < last_tick zs) → last_tick zs ≤ x.tick → u < x.tick
      by (inl now) before rises =
          let same : outcome_of shape zs row ≡ out.Stored u p = ap (λ (o : Option (Outcome n)). unwrap_or o (outcome_of shape zs row)) (sym (now.1 x.tick row)) ∙ s in
          let up_to : u ≤ last_tick zs = stored_up_to zs row u p r i l.1 same in
          let below : last_tick zs < x.tick = last-below shape pace e zs x r i l now.0 in
          omega arith
      by (inr ex) before rises =
          let lt : u < last_tick zs = before ex (kept_by zs x x.happens row u p l.0 ex s) in
          omega arith

module _ {n m : ℕ} (shape : BankShape) (pace : Pace) (e : ℕ) (all : List (TimedEvent n m)) where
  -- the row of a worn write is above every store
  worn_above : (later : List (TimedEvent n m)) (x : TimedEvent n m) (ys : List (TimedEvent n m)) (row u p : ℕ) → 1 ≤ pace.read → 1 ≤ pace.iter → Lawful shape pace e all → all ≡ later ++ x ∷ ys
      → has_exhausted (core ys) ≡ true → outcome_of shape all row ≡ out.Stored u p → u < x.tick
  worn_above later x ys row u p r i l same ex s =
      let whole : Lawful shape pace e (later ++ x ∷ ys) = subst (λ (xs : List (TimedEvent n m)). Lawful shape pace e xs) same l in
      let here : Lawful shape pace e (x ∷ ys) = lawful_before shape pace e later (x ∷ ys) whole in
      let as_split : (later ++ x ∷ []) ++ ys ≡ all = append_assoc later (x ∷ []) ys ∙ sym same in
      let before : outcome_of shape ys row ≡ out.Stored u p =
      stored_before_exhausted shape pace e (later ++ x ∷ []) ys row u p (subst (λ (xs : List (TimedEvent n m)). Lawful shape pace e xs) (sym as_split) l) ex
      (ap (λ xs. outcome_of shape xs row) as_split ∙ s) in
      let lt : u < last_tick ys = stored_below_exhausted shape pace e ys row u p r i here.1 ex before in
      let rises : last_tick ys ≤ x.tick = last_tick-rises shape pace e ys x r i here in
      omega arith

  -- the row of an event is no worn row with a tick up to that of a store
  not_worn_here : (later : List (TimedEvent n m)) (x : TimedEvent n m) (ys : List (TimedEvent n m)) (row u p : ℕ) → 1 ≤ pace.read → 1 ≤ pace.iter → Lawful shape pace e all → AreOpen shape all
      → all ≡ later ++ x ∷ ys → outcome_of shape all row ≡ out.Stored u p → worn_by u (row_with shape all x.happens x.tick x.cancels) ≡ false
  not_worn_here later x ys row u p r i l o same s =
      by x.happens x.cancels (may_at shape pace e all later x ys l same) (onwards_at shape pace e all later x ys l same) (λ ex. worn_above later x ys row u p r i l same ex s)
    where
      by : (h : Happens n) (cancels : Bool) → MayCome shape pace e ys x h → Onwards shape all ys x.tick h → (has_exhausted (core ys) ≡ true → u < x.tick)
          → worn_by u (row_with shape all h x.tick cancels) ≡ false
      by (Core (Write at line bytes given answer)) cancels may on above =
          either (is_worn (ended x.tick (outcome_of shape all at)))
          (λ worn.
          let ex : has_exhausted (core ys) ≡ true =
          refused-exhausted shape (core ys) line
          (sym (worn_outcome x.tick answer (ended x.tick (outcome_of shape all at)) (write_outcome shape pace e all ys x at line bytes given answer o may on) worn) ∙ may.may.2) in
          or_from (is_worn (ended x.tick (outcome_of shape all at)) && nat_le x.tick u) false (and_right (is_worn (ended x.tick (outcome_of shape all at))) _ (lt-leb x.tick u (above ex))) refl)
          (λ fine. or_from (is_worn (ended x.tick (outcome_of shape all at)) && nat_le x.tick u) false (and_left (is_worn (ended x.tick (outcome_of shape all at))) _ fine) refl)
      by (Core (Cut tearing)) true may on above = refl
      by _ _ may on above = refl

  pub none_worn_before : (later ys : List (TimedEvent n m)) (row u p : ℕ) → 1 ≤ pace.read → 1 ≤ pace.iter → Lawful shape pace e all → AreOpen shape all → all ≡ later ++ ys
      → outcome_of shape all row ≡ out.Stored u p → worn_by u (rows_from shape all ys) ≡ false
  none_worn_before later [] row u p r i l o same s = refl
  none_worn_before later (x ∷ ys) row u p r i l o same s =
      list_any-append (λ (q : Row n). worn_row q && nat_le q.tick u) (row_with shape all x.happens x.tick x.cancels) (rows_from shape all ys)
      ∙ or_from _ _ (not_worn_here later x ys row u p r i l o same s)
      (none_worn_before (later ++ x ∷ []) ys row u p r i l o (same ∙ sym (append_assoc later (x ∷ []) ys)) s)

  pub none_worn_after : (pre later zs : List (TimedEvent n m)) (row u p : ℕ) → 1 ≤ pace.read → 1 ≤ pace.iter → Lawful shape pace e all → AreOpen shape all → all ≡ pre ++ (later ++ zs)
      → outcome_of shape all row ≡ out.Stored u p → worn_by u (rows_after shape all later) ≡ false
  none_worn_after pre [] zs row u p r i l o same s = refl
  none_worn_after pre (x ∷ later) zs row u p r i l o same s =
      list_any-append (λ (q : Row n). worn_row q && nat_le q.tick u) (rows_after shape all later) (row_with shape all x.happens x.tick x.cancels)
      ∙ or_from _ _ (none_worn_after (pre ++ x ∷ []) later zs row u p r i l o (same ∙ sym (append_assoc pre (x ∷ []) (later ++ zs))) s)
      (not_worn_here pre x (later ++ zs) row u p r i l o same s)

  -- a worn row among earlier ones comes of a bank that is exhausted
  pub worn_rows-exhausted : (later ys : List (TimedEvent n m)) → Lawful shape pace e all → AreOpen shape all → all ≡ later ++ ys → list_any worn_row (rows_from shape all ys) ≡ true
      → has_exhausted (core ys) ≡ true
  worn_rows-exhausted later [] l o same w = absurd (cc)
  worn_rows-exhausted later (x ∷ ys) l o same w =
      by x.happens x.cancels (may_at shape pace e all later x ys l same) (onwards_at shape pace e all later x ys l same)
      (λ w. exhausted_on shape pace e x.happens ys (worn_rows-exhausted (later ++ x ∷ []) ys l o (same ∙ sym (append_assoc later (x ∷ []) ys)) w)) w
    where
      by : (h : Happens n) (cancels : Bool) → MayCome shape pace e ys x h → Onwards shape all ys x.tick h → (list_any worn_row (rows_from shape all ys) ≡ true → has_exhausted (core_of h (core ys)) ≡ true)
          → list_any worn_row (row_with shape all h x.tick cancels ++ rows_from shape all ys) ≡ true → has_exhausted (core_of h (core ys)) ≡ true
      by (Core (Write at line bytes given answer)) cancels may on rest w =
          either (is_worn (ended x.tick (outcome_of shape all at)))
          (λ worn. refused-exhausted shape (core ys) line
          (sym (worn_outcome x.tick answer (ended x.tick (outcome_of shape all at)) (write_outcome shape pace e all ys x at line bytes given answer o may on) worn) ∙ may.may.2))
          (λ fine. rest (or_rest (is_worn (ended x.tick (outcome_of shape all at))) _ fine w))
      by (Core (Cut tearing)) true may on rest w = rest w
      by _ _ may on rest w = rest w
