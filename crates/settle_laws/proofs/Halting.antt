-- A bank that is exhausted, or has halted, stores nothing any more; and one that has halted alone refuses no write for wear.
use Rattle.std.proofs.Common.{◌≡◌, ◌⊎◌, ℕ, Bool, true, false, List, [], ◌∷◌, ◌++◌, Option, None, inl, inr, refl, sym, ap, subst, ◌∙◌, append_assoc}
use Rattle.std.specs.Prelude.{All, is_some, unwrap_or}
use Rattle.result_rows.specs.declared.Outcome.{Outcome}
use Rattle.result_rows.specs.declared.Outcome.TheVariants as out
use Rattle.row_rules.specs.{Answers.{is_stored, is_worn}, declared.Asks.Asks, declared.Asks.TheVariants.{Reads, Writes, Cuts}}
use Rattle.masked_bytes.specs.Entries.{layer_of}
use Rattle.bank_shape.specs.{declared.BankShape.BankShape, declared.answer.ReadAnswer.ReadAnswer, declared.answer.WriteAnswer.WriteAnswer, declared.pace.Pace.Pace}
use Rattle.bank_shape.specs.declared.answer.WriteAnswer.TheVariants as wrote
use Rattle.bank_shape.specs.declared.answer.ReadAnswer.TheVariants as came
use Rattle.bank_shape.specs.declared.answer.Keep.TheVariants as keep
use Rattle.bank_model.specs.Changes.{change_after, change_by, halted_after, halted_by, keeping_after, keeping_by}
use Rattle.bank_model.specs.{Events.{Write, Read, Serve, Begin, Iterate, Cut, RowsBelow, newest}, History.{awaited, has_exhausted, queue, waits}, Lawful.{Lawful, MayCome}}
use Rattle.bank_model.specs.Timing.{Happens, Core, Regs, KeepBegin, KeepIterate, KeepCut, TimedEvent, core, core_of}
use Rattle.bank_laws.{specs.Outcomes.{ended, outcome_of, outcome_with}, specs.Standing.has_wait, proofs.Ending.{Onwards, own_answer, write_outcome}}
use Rattle.bank_laws.proofs.{Fates.{IsSettled, ReadFate, awaits-has, awaits-new}, Settling.{lawful_before, opens}}
use Rattle.bank_laws.proofs.Wears.{exhausted_later, lost_not_stored, not_stored, refused-exhausted, stored_before_exhausted, worn_outcome}
use Rattle.module_laws.specs.Asking.{Asked, AreAsked}
use Rattle.pcm_module.specs.Replaying.{outcome_so_far}
use Rattle.settle_laws.proofs.{Banks.known_of, Coming.each-later}

no-change : (change : Option ℕ) → is_some change ≡ true → change ≡ None → ⊥
no-change None stands is = absurd (cc stands)
no-change _ stands is = absurd (cc is)

module _ {n m : ℕ} (shape : BankShape) (pace : Pace) (e : ℕ) where
  -- the writing of a change has ended at a worn control line, and so the change stands
  pub record IsHalted (xs : List (TimedEvent n m)) : Type 0 where
    pub stands : is_some (change_after shape xs) ≡ true
    pub rests : keeping_after xs ≡ false
    pub halted : halted_after xs ≡ true

  -- and behind what happens, after these events
  abbrev Halts : List (TimedEvent n m) → Happens n → Type 0
  Halts zs h = (is_some (change_by shape (core zs) h (change_after shape zs)) ≡ true) × (keeping_by h (keeping_after zs) ≡ false) × (halted_by h (halted_after zs) ≡ true)

  -- it stays so
  halts-on : (zs : List (TimedEvent n m)) (x : TimedEvent n m) (h : Happens n) → MayCome shape pace e zs x h → IsHalted zs → Halts zs h
  halts-on zs x (Core (Write row line bytes given answer)) may is = (is.stands, is.rests, is.halted)
  halts-on zs x (Core (Read row line answer)) may is = (is.stands, is.rests, is.halted)
  halts-on zs x (Core (Serve answer)) may is = (is.stands, is.rests, is.halted)
  halts-on zs x (Core (Begin answer)) may is = absurd (no-change (change_after shape zs) is.stands may.on_time.2)
  halts-on zs x (Core (Iterate answer)) may is = absurd (no-change (change_after shape zs) is.stands may.on_time.2)
  halts-on zs x (Core (Cut tearing)) may is = (is.stands, refl, is.halted)
  halts-on zs x (Regs (KeepBegin answer)) may is = let no : true ≡ false = sym is.halted ∙ may.may.1 in absurd (cc no)
  halts-on zs x (Regs (KeepIterate answer)) may is = let no : false ≡ true = sym is.rests ∙ may.may.0 in absurd (cc no)
  halts-on zs x (Regs (KeepCut tearing)) may is = (is.stands, refl, is.halted)

  -- where the mark is set, it is so
  pub halted-now : (xs : List (TimedEvent n m)) → Lawful shape pace e xs → halted_after xs ≡ true → IsHalted xs
  halted-now [] l is = absurd (cc is)
  halted-now (x ∷ xs) l is =
      let now = by x.happens l.0 is (λ before. halted-now xs l.1 before) in
      record { stands = now.0; rests = now.1; halted = now.2 }
    where
      by : (h : Happens n) → MayCome shape pace e xs x h → halted_by h (halted_after xs) ≡ true → (halted_after xs ≡ true → IsHalted xs) → Halts xs h
      by (Regs (KeepIterate keep.Halted)) may is rec = (may.stands, refl, refl)
      by (Regs (KeepIterate keep.More)) may is rec = halts-on xs x (Regs (KeepIterate keep.More)) may (rec is)
      by (Regs (KeepIterate keep.Done)) may is rec = halts-on xs x (Regs (KeepIterate keep.Done)) may (rec is)
      by (Regs (KeepBegin answer)) may is rec = halts-on xs x (Regs (KeepBegin answer)) may (rec is)
      by (Regs (KeepCut tearing)) may is rec = halts-on xs x (Regs (KeepCut tearing)) may (rec is)
      by (Core event) may is rec = halts-on xs x (Core event) may (rec is)

  halted-later : (later xs : List (TimedEvent n m)) → Lawful shape pace e (later ++ xs) → IsHalted xs → IsHalted (later ++ xs)
  halted-later [] xs l is = is
  halted-later (x ∷ later) xs l is =
      let now = halts-on (later ++ xs) x x.happens l.0 (halted-later later xs l.1 is) in
      record { stands = now.0; rests = now.1; halted = now.2 }

  -- what is stored behind an event was stored before
  kept-by : (zs : List (TimedEvent n m)) (x : TimedEvent n m) (h : Happens n) (row u p : ℕ) → MayCome shape pace e zs x h → IsHalted zs
      → unwrap_or (outcome_with shape zs h x.tick row) (outcome_of shape zs row) ≡ out.Stored u p → outcome_of shape zs row ≡ out.Stored u p
  kept-by zs x (Core (Write at line bytes given (wrote.Merged old))) row u p may is s = not_stored old row _ _ u p (λ is. absurd (cc)) s
  kept-by zs x (Core (Write at line bytes given wrote.Full)) row u p may is s = not_stored at row _ _ u p (λ is. absurd (cc)) s
  kept-by zs x (Core (Write at line bytes given wrote.Exhausted)) row u p may is s = not_stored at row _ _ u p (λ is. absurd (cc)) s
  kept-by zs x (Core (Read at line came.Busy)) row u p may is s = not_stored at row _ _ u p (λ is. absurd (cc)) s
  kept-by zs x (Core (Read at line (came.Forwarded bytes))) row u p may is s = not_stored at row _ _ u p (λ is. absurd (cc)) s
  kept-by zs x (Core (Serve answer)) row u p may is s = not_stored answer.row row _ _ u p (λ is. absurd (cc)) s
  kept-by zs x (Core (Begin answer)) row u p may is s = absurd (no-change (change_after shape zs) is.stands may.on_time.2)
  kept-by zs x (Core (Iterate answer)) row u p may is s = absurd (no-change (change_after shape zs) is.stands may.on_time.2)
  kept-by zs x (Core (Cut tearing)) row u p may is s = lost_not_stored (has_wait (waits shape (core zs)) row) x.tick _ u p s
  kept-by zs x _ row u p may is s = s

  stored-before-halted : (later zs : List (TimedEvent n m)) (row u p : ℕ) → Lawful shape pace e (later ++ zs) → IsHalted zs
      → outcome_of shape (later ++ zs) row ≡ out.Stored u p → outcome_of shape zs row ≡ out.Stored u p
  stored-before-halted [] zs row u p l is s = s
  stored-before-halted (x ∷ later) zs row u p l is s =
      stored-before-halted later zs row u p l.1 is (kept-by (later ++ zs) x x.happens row u p l.0 (halted-later later zs l.1 is) s)

  -- a bank is exhausted, or has halted
  abbrev pub IsOver : List (TimedEvent n m) → Type 0
  IsOver xs = (has_exhausted (core xs) ≡ true) ⊎ IsHalted xs

  over-later : (later xs : List (TimedEvent n m)) → Lawful shape pace e (later ++ xs) → IsOver xs → IsOver (later ++ xs)
  over-later later xs l (inl is) = inl (exhausted_later shape pace e later xs is)
  over-later later xs l (inr is) = inr (halted-later later xs l is)

  stored-before : (later zs : List (TimedEvent n m)) (row u p : ℕ) → Lawful shape pace e (later ++ zs) → IsOver zs
      → outcome_of shape (later ++ zs) row ≡ out.Stored u p → outcome_of shape zs row ≡ out.Stored u p
  stored-before later zs row u p l (inl is) s = stored_before_exhausted shape pace e later zs row u p l is s
  stored-before later zs row u p l (inr is) s = stored-before-halted later zs row u p l is s

unstored : {n : ℕ} (o : Outcome n) → ((u p : ℕ) → o ≡ out.Stored u p → ⊥) → is_stored o ≡ false
unstored (out.Stored u p) none = absurd (none u p refl)
unstored _ none = refl

unstored-ended : {n : ℕ} (tick : ℕ) (o : Outcome n) → ((u p : ℕ) → o ≡ out.Stored u p → ⊥) → is_stored (ended tick o) ≡ false
unstored-ended tick (out.Stored u p) none = absurd (none u p refl)
unstored-ended tick _ none = refl

module _ {n m : ℕ} (shape : BankShape) (pace : Pace) (e : ℕ) (xs : List (TimedEvent n m)) (is : IsOver shape pace e xs) (all : List (TimedEvent n m)) (l : Lawful shape pace e all) (over : Bool) where
  -- a row comes to no store
  abbrev Leaves : Asked n → Asks n → Type 0
  Leaves a asks = is_stored (known_of over shape all a asks) ≡ false

  abbrev Is : Asked n → Type 0
  Is a = Leaves a a.asks

  leaves : (over : Bool) (a : Asked n) (asks : Asks n) → ((u p : ℕ) → outcome_of shape all a.row ≡ out.Stored u p → ⊥) → is_stored (known_of over shape all a asks) ≡ false
  leaves true a (Reads line) none = unstored (outcome_of shape all a.row) none
  leaves true a (Writes line bytes given) none = unstored-ended a.tick (outcome_of shape all a.row) none
  leaves true a Cuts none = refl
  leaves false a (Reads line) none = unstored (outcome_of shape all a.row) none
  leaves false a (Writes line bytes given) none = unstored (outcome_of shape all a.row) none
  leaves false a Cuts none = refl

  -- a row that came before, and had no outcome
  pub left-before : (since : List (TimedEvent n m)) → all ≡ since ++ xs → (a : Asked n) (asks : Asks n) → outcome_so_far shape xs a asks ≡ out.Unset → Leaves a asks
  left-before since same a asks unset = by asks unset
    where
      none : outcome_of shape xs a.row ≡ out.Unset → (u p : ℕ) → outcome_of shape all a.row ≡ out.Stored u p → ⊥
      none unset u p stored =
          let before : outcome_of shape xs a.row ≡ out.Stored u p =
          stored-before shape pace e since xs a.row u p (subst (λ (ys : List (TimedEvent n m)). Lawful shape pace e ys) same l) is
          (ap (λ (ys : List (TimedEvent n m)). outcome_of shape ys a.row) (sym same) ∙ stored) in
          let no : ◌≡◌ {A = Outcome n} out.Unset (out.Stored u p) = sym unset ∙ before in
          absurd (cc no)

      by : (asks : Asks n) → outcome_so_far shape xs a asks ≡ out.Unset → Leaves a asks
      by (Reads line) unset = leaves over a (Reads line) (none unset)
      by (Writes line bytes given) unset = leaves over a (Writes line bytes given) (none unset)
      by Cuts unset = absurd (cc unset)

  -- a row that comes later, as it comes
  none-coming : (later since : List (TimedEvent n m)) (x : TimedEvent n m) → all ≡ later ++ x ∷ (since ++ xs) → (row : ℕ) → RowsBelow (core (since ++ xs)) row
      → (u p : ℕ) → outcome_of shape all row ≡ out.Stored u p → ⊥
  none-coming later since x same row below u p stored =
      let split : all ≡ (later ++ x ∷ []) ++ (since ++ xs) = same ∙ sym (append_assoc later (x ∷ []) (since ++ xs)) in
      let lawful : Lawful shape pace e ((later ++ x ∷ []) ++ (since ++ xs)) = subst (λ (ys : List (TimedEvent n m)). Lawful shape pace e ys) split l in
      let earlier : Lawful shape pace e (since ++ xs) = lawful_before shape pace e (later ++ x ∷ []) (since ++ xs) lawful in
      let before : outcome_of shape (since ++ xs) row ≡ out.Stored u p =
      stored-before shape pace e (later ++ x ∷ []) (since ++ xs) row u p lawful (over-later shape pace e since xs earlier is)
      (ap (λ (ys : List (TimedEvent n m)). outcome_of shape ys row) (sym split) ∙ stored) in
      let no : ◌≡◌ {A = Outcome n} out.Unset (out.Stored u p) = sym ((opens shape pace e (since ++ xs) earlier).coming row below) ∙ before in
      absurd (cc no)

  -- no row that comes later does
  pub left-later : (since : List (TimedEvent n m)) → all ≡ since ++ xs → (later asked : List (Asked n)) → AreAsked (since ++ xs) (later ++ asked) → AreAsked xs asked → All Is later
  left-later =
      each-later shape pace e xs all l Is
      (λ later since x same row line bytes given answer may on.
      leaves over (record { row = row; tick = x.tick; asks = Writes line bytes given }) (Writes line bytes given) (none-coming later since x same row may.asked))
      (λ later since x same row line answer may on. leaves over (record { row = row; tick = x.tick; asks = Reads line }) (Reads line) (none-coming later since x same row may.asked))
      (λ a is_cut. subst (λ (asks : Asks n). Leaves a asks) (sym is_cut) (cut over a))
    where
      cut : (over : Bool) (a : Asked n) → is_stored (known_of over shape all a Cuts) ≡ false
      cut true a = refl
      cut false a = refl

worn-ended : {n : ℕ} (tick : ℕ) (o : Outcome n) → is_worn (ended tick o) ≡ is_worn o
worn-ended tick out.Unset = refl
worn-ended tick _ = refl

settled-whole : {n : ℕ} (owed : List ℕ) (o : Outcome n) → IsSettled owed o → is_worn o ≡ false
settled-whole owed (out.Read tick place bytes) settled = refl
settled-whole owed (out.Lost tick) settled = refl
settled-whole owed _ settled = absurd settled

-- a bank that has halted, and isn't exhausted, refuses no write for wear
module _ {n m : ℕ} (shape : BankShape) (pace : Pace) (e : ℕ) (xs : List (TimedEvent n m)) (halted : IsHalted shape pace e xs) (fresh : has_exhausted (core xs) ≡ false)
    (all : List (TimedEvent n m)) (l : Lawful shape pace e all) (over : Bool) where
  -- it never is
  fresh-on : (zs : List (TimedEvent n m)) (x : TimedEvent n m) (h : Happens n) → MayCome shape pace e zs x h → IsHalted shape pace e zs → has_exhausted (core zs) ≡ false
      → has_exhausted (core_of h (core zs)) ≡ false
  fresh-on zs x (Core (Begin answer)) may is none = absurd (no-change (change_after shape zs) is.stands may.on_time.2)
  fresh-on zs x (Core (Iterate answer)) may is none = absurd (no-change (change_after shape zs) is.stands may.on_time.2)
  fresh-on zs x _ may is none = none

  fresh-later : (since : List (TimedEvent n m)) → Lawful shape pace e (since ++ xs) → has_exhausted (core (since ++ xs)) ≡ false
  fresh-later [] lawful = fresh
  fresh-later (x ∷ since) lawful = fresh-on (since ++ xs) x x.happens lawful.0 (halted-later shape pace e since xs lawful.1 halted) (fresh-later since lawful.1)

  abbrev IsWhole : Asked n → Type 0
  IsWhole a = is_worn (known_of over shape all a a.asks) ≡ false

  of-write : (over : Bool) (a : Asked n) (line : ℕ) (bytes : List ℕ) (given : List Bool) → is_worn (ended a.tick (outcome_of shape all a.row)) ≡ false → is_worn (known_of over shape all a (Writes line bytes given)) ≡ false
  of-write true a line bytes given none = none
  of-write false a line bytes given none = sym (worn-ended a.tick (outcome_of shape all a.row)) ∙ none

  of-read : (over : Bool) (a : Asked n) (line : ℕ) → is_worn (outcome_of shape all a.row) ≡ false → is_worn (known_of over shape all a (Reads line)) ≡ false
  of-read true a line none = none
  of-read false a line none = none

  of-cut : (over : Bool) (a : Asked n) → is_worn (known_of over shape all a Cuts) ≡ false
  of-cut true a = refl
  of-cut false a = refl

  taken : (later since : List (TimedEvent n m)) (x : TimedEvent n m) → all ≡ later ++ x ∷ (since ++ xs) → (row line : ℕ) (bytes : List ℕ) (given : List Bool) (answer : WriteAnswer)
      → MayCome shape pace e (since ++ xs) x (Core (Write row line bytes given answer)) → Onwards shape all (since ++ xs) x.tick (Core (Write row line bytes given answer))
      → is_worn (ended x.tick (outcome_of shape all row)) ≡ false
  taken later since x same row line bytes given answer may on = by (is_worn (ended x.tick (outcome_of shape all row))) refl
    where
      split : all ≡ (later ++ x ∷ []) ++ (since ++ xs)
      split = same ∙ sym (append_assoc later (x ∷ []) (since ++ xs))

      earlier : Lawful shape pace e (since ++ xs)
      earlier = lawful_before shape pace e (later ++ x ∷ []) (since ++ xs) (subst (λ (ys : List (TimedEvent n m)). Lawful shape pace e ys) split l)

      by : (b : Bool) → is_worn (ended x.tick (outcome_of shape all row)) ≡ b → is_worn (ended x.tick (outcome_of shape all row)) ≡ false
      by false is = is
      by true is =
          let refused : answer ≡ wrote.Exhausted =
          worn_outcome x.tick answer (ended x.tick (outcome_of shape all row)) (write_outcome shape pace e all (since ++ xs) x row line bytes given answer (opens shape pace e all l) may on) is in
          let exhausted : has_exhausted (core (since ++ xs)) ≡ true = refused-exhausted shape (core (since ++ xs)) line (sym refused ∙ may.may.2) in
          let no : true ≡ false = sym exhausted ∙ fresh-later since earlier in
          absurd (cc no)

  came-in : (since : List (TimedEvent n m)) (x : TimedEvent n m) (row line : ℕ) (answer : ReadAnswer n) → Onwards shape all (since ++ xs) x.tick (Core (Read row line answer)) → is_worn (outcome_of shape all row) ≡ false
  came-in since x row line (came.Forwarded bytes) on =
      ap is_worn (own_answer shape pace e all (since ++ xs) x (Core (Read row line (came.Forwarded bytes))) row (out.Forwarded x.tick bytes) on refl (λ is. absurd (cc)))
  came-in since x row line came.Busy on = ap is_worn (own_answer shape pace e all (since ++ xs) x (Core (Read row line came.Busy)) row (out.Busy x.tick) on refl (λ is. absurd (cc)))
  came-in since x row line came.Waiting on =
      by (on.reads row (newest (core (since ++ xs)) line)
      (inl (awaits-new (waits shape (core (since ++ xs))) (awaited row line (newest (core (since ++ xs)) line) (layer_of (queue shape (core (since ++ xs))) line)))))
    where
      by : ReadFate shape all row (newest (core (since ++ xs)) line) → is_worn (outcome_of shape all row) ≡ false
      by (inl awaits) = ap is_worn ((opens shape pace e all l).waiting row (awaits-has (waits shape (core all)) row (newest (core (since ++ xs)) line) awaits))
      by (inr settled) = settled-whole (newest (core (since ++ xs)) line) (outcome_of shape all row) settled

  pub taken-later : (since : List (TimedEvent n m)) → all ≡ since ++ xs → (later asked : List (Asked n)) → AreAsked (since ++ xs) (later ++ asked) → AreAsked xs asked → All IsWhole later
  taken-later =
      each-later shape pace e xs all l IsWhole
      (λ later since x same row line bytes given answer may on.
      of-write over (record { row = row; tick = x.tick; asks = Writes line bytes given }) line bytes given (taken later since x same row line bytes given answer may on))
      (λ later since x same row line answer may on. of-read over (record { row = row; tick = x.tick; asks = Reads line }) line (came-in since x row line answer on))
      (λ a is_cut. subst (λ (asks : Asks n). is_worn (known_of over shape all a asks) ≡ false) (sym is_cut) (of-cut over a))
