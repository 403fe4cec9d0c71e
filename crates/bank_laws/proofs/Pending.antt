-- The writes that stand in the queue, by the rows and by the events.
use Rattle.std.proofs.Common.{◌≡◌, ◌≢◌, ℕ, ◌<◌, ◌≤◌, ◌==◌, ◌&&◌, ◌||◌, ◌⊎◌, inl, inr, not, Bool, true, false, List, [], ◌∷◌, ◌++◌, Option, None, drop, length, refl, sym, ap, ◌∙◌, subst, arith, cond, eqb, append_assoc}
use Rattle.std.{specs.List.list_any, specs.Prelude.{unwrap_or, nat_lt, nat_le}, proofs.lemmas.Bool.{lt-ltb, le-ltb, le-leb, or_left, or_right, and_from}}
use Rattle.result_rows.specs.declared.Outcome.{Outcome}
use Rattle.result_rows.specs.declared.Outcome.TheVariants as out
use Rattle.masked_bytes.{specs.Entries.{has_row, candidate}, proofs.Rows.{lacks-push, lacks-drop, lacks-merged}, proofs.Truth.implied}
use Rattle.row_rules.specs.{Answers.{accepts, is_full, is_merged, is_queued, stored_after}, Queueing.{merges_at, pending}, Rows.accepted_of, declared.Row.Row}
use Rattle.bank_shape.specs.{declared.BankShape.BankShape, declared.answer.WriteAnswer.WriteAnswer, declared.pace.Pace.Pace}
use Rattle.bank_shape.specs.declared.answer.WriteAnswer.TheVariants as wrote
use Rattle.bank_shape.specs.declared.answer.Step.TheVariants as did
use Rattle.bank_model.specs.{Answers.{head_busy_after, accept_answer, write_answer}, Events.{BankEvent, Write, Read, Begin, Iterate, Cut, RowsBelow, newest}}
use Rattle.bank_model.specs.{History.{queue, due_after, has_exhausted}, Lawful.{Lawful, MayCome}, Sensing.most_steps, Timing.{Happens, Core, TimedEvent, core, core_of, last_tick}}
use Rattle.bank_model.proofs.Begun.{row-begun}
use Rattle.bank_laws.specs.{Outcomes.{outcome_with, outcome_of, ended, row_with, rows_from}, RowLaws.{is_room_fair, QueueLaw}, Ticks.ends_action}
use Rattle.bank_laws.proofs.{Counting.{among, Falling, falling-more, hits, entries-counted}, Ending.{Onwards, IsOutcome, accepting, own_row, write_outcome, outcome-accepts}}
use Rattle.bank_laws.proofs.{Entries.either, Fates.{IsLeft, WriteFate, write_fate}, Holding.bound_law, Later.{EndsAbove, ends_at_row, stored_over}}
use Rattle.bank_laws.proofs.{Lines.{Stands, Covered, covered-stands, stands-row}, Merging.{Fate, covered-kept, stays_there, spares_covered, FateBy, fate, fate_new}}
use Rattle.bank_laws.proofs.{Serves.{may_at, onwards_at}, Settling.{opens, above_all, lawful_before, step_stays, stays}, Standing.stand_apart, Ticks.last_tick-rises}
use Rattle.bank_laws.proofs.{Waiting.{may_all, cond_length}, Walking.{Passes, walk, rows_after, rows_after-more}, Wears.stored_up_to}

module _ {n : ℕ} where
  -- whether a write with this outcome stands at tick t, where an accepted write of its line came since, or none
  abbrev pub stands_by : ℕ → ℕ → Bool → Outcome n → Bool
  stands_by t tick any o = accepts (ended tick o) && (stored_after t (ended tick o) || (is_queued (ended tick o) || (is_merged (ended tick o) && not any)))

  pub by_refused : (t tick : ℕ) (any : Bool) (o : Outcome n) → accepts (ended tick o) ≡ false → stands_by t tick any o ≡ false
  by_refused t tick any o isnt = subst (λ b. (b && (stored_after t (ended tick o) || (is_queued (ended tick o) || (is_merged (ended tick o) && not any)))) ≡ false) (sym isnt) refl

  pub any_merges : (line tick : ℕ) (rows : List (Row n)) → merges_at line tick rows ≡ true → list_any (accepted_of line) rows ≡ true
  any_merges line tick [] h = absurd (cc)
  any_merges line tick (r ∷ rows) h = by (accepted_of line r) (λ k. any_merges line tick rows k) h
    where
      by : (b : Bool) → (merges_at line tick rows ≡ true → list_any (accepted_of line) rows ≡ true) → cond b (r.tick == tick) (merges_at line tick rows) ≡ true → (b || list_any (accepted_of line) rows) ≡ true
      by true go h = refl
      by false go h = go h

  pub full_outcome : (tick : ℕ) (answer : WriteAnswer) (o : Outcome n) → IsOutcome tick answer o → is_full o ≡ true → answer ≡ wrote.Full
  full_outcome tick answer o is f = grind arith

  full-room : (shape : BankShape) (h : List (BankEvent n)) (line : ℕ) → wrote.Full ≡ write_answer shape h line → (length (queue shape h) == shape.writes) ≡ true
  full-room shape h line a = by (has_exhausted h) (candidate (head_busy_after shape h) (queue shape h) line) a
    where
      room : (b : Bool) → wrote.Full ≡ cond b wrote.Full wrote.Accepted → b ≡ true
      room b a = grind arith

      by : (b : Bool) (c : Option ℕ) → wrote.Full ≡ cond b wrote.Exhausted (accept_answer shape h c) → eqb (length (queue shape h)) shape.writes ≡ true
      by false None a = room (eqb (length (queue shape h)) shape.writes) a
      by _ _ a = absurd (cc)

pub by_stored_later : (n t tick : ℕ) (any : Bool) (u p : ℕ) → t < u → stands_by {n = n} t tick any (out.Stored u p) ≡ true
by_stored_later n t tick any u p lt = or_left (nat_lt t u) false (lt-ltb t u lt)

pub by_stored_before : (n t tick : ℕ) (any : Bool) (u p : ℕ) → u ≤ t → stands_by {n = n} t tick any (out.Stored u p) ≡ false
by_stored_before n t tick any u p le = subst (λ b. (b || false) ≡ false) (sym (le-ltb t u le)) refl

-- the rows of the writes, the newest first
abbrev pub write_rows : {n : ℕ} → Happens n → List ℕ
write_rows (Core (Write row line bytes given answer)) = row ∷ []
write_rows _ = []

abbrev pub writes_in : {n m : ℕ} → List (TimedEvent n m) → List ℕ
writes_in [] = []
writes_in (x ∷ xs) = write_rows x.happens ++ writes_in xs

pub writes-fall : {n m : ℕ} (zs : List (TimedEvent n m)) (bound : ℕ) → RowsBelow (core zs) bound → Falling (writes_in zs) bound
writes-fall [] bound b = tt
writes-fall {n} {m} (z ∷ zs) bound b = by z.happens (λ bound b. writes-fall zs bound b) b
  where
    by : (h : Happens n) → ((bound : ℕ) → RowsBelow (core zs) bound → Falling (writes_in zs) bound) → RowsBelow (core_of h (core zs)) bound → Falling (write_rows h ++ writes_in zs) bound
    by (Core (Write at line bytes given answer)) go b = (b.0, go at b.1)
    by (Core (Read at line answer)) go b = falling-more (writes_in zs) at bound (omega (arith, b.0)) (go at b.1)
    by _ go b = go bound b

pub queue-asked : {n m : ℕ} (shape : BankShape) (zs : List (TimedEvent n m)) (r : ℕ) → has_row (queue shape (core zs)) r ≡ true → among (writes_in zs) r ≡ true
queue-asked shape [] r there = absurd (cc)
queue-asked {n} {m} shape (z ∷ zs) r there = by z.happens (λ t. queue-asked shape zs r t) there
  where
    begun_there : (b : Bool) → b ≡ has_row (queue shape (core zs)) r → (has_row (queue shape (core zs)) r ≡ true → among (writes_in zs) r ≡ true) → b ≡ true → among (writes_in zs) r ≡ true
    begun_there b same go there = go (sym same ∙ there)

    dropped : (has_row (queue shape (core zs)) r ≡ true → among (writes_in zs) r ≡ true) → has_row (drop 1 (queue shape (core zs))) r ≡ true → among (writes_in zs) r ≡ true
    dropped go there = either (has_row (queue shape (core zs)) r) go (λ f. absurd (cc (lacks-drop (queue shape (core zs)) r f, there)))

    by : (h : Happens n) → (has_row (queue shape (core zs)) r ≡ true → among (writes_in zs) r ≡ true) → has_row (queue shape (core_of h (core zs))) r ≡ true → among (write_rows h ++ writes_in zs) r ≡ true
    by (Core (Write at line bytes given wrote.Accepted)) go there =
        either (has_row (queue shape (core zs)) r) (λ t. or_right (at == r) _ (go t))
        (λ f. either (eqb at r) (λ is. or_left (at == r) _ is)
        (λ ne. absurd (cc (lacks-push (queue shape (core zs)) (record { row = at; line = line; bytes = bytes; given = given }) r f ne, there))))
    by (Core (Write at line bytes given (wrote.Merged old))) go there =
        either (has_row (queue shape (core zs)) r) (λ t. or_right (at == r) _ (go t))
        (λ f. either (eqb at r) (λ is. or_left (at == r) _ is) (λ ne. absurd (cc (lacks-merged old at bytes given (queue shape (core zs)) r f ne, there))))
    by (Core (Write at line bytes given _)) go there = or_right (at == r) _ (go there)
    by (Core (Begin (did.Stored at place))) go there = dropped go there
    by (Core (Begin _)) go there = go (sym (row-begun (due_after shape (core zs)) (newest (core zs)) (queue shape (core zs)) r) ∙ there)
    by (Core (Iterate (did.Stored at place))) go there = dropped go there
    by _ go there = go there

-- a refused write has its outcome at once
pub refused_set : {n m : ℕ} (shape : BankShape) (ys : List (TimedEvent n m)) (tick at line : ℕ) (bytes : List ℕ) (given : List Bool) (answer : WriteAnswer) → accepting answer ≡ false
    → unwrap_or (outcome_with shape ys (Core (Write at line bytes given answer)) tick at) (outcome_of shape ys at) ≢ out.Unset
refused_set shape ys tick at line bytes given wrote.Accepted ref un = absurd (cc)
refused_set shape ys tick at line bytes given (wrote.Merged old) ref un = absurd (cc)
refused_set {n} shape ys tick at line bytes given wrote.Full ref un = let both : ◌≡◌ {A = Outcome n} (out.Full tick) out.Unset = sym (own_row at (out.Full tick) (outcome_of shape ys at)) ∙ un in absurd (cc)
refused_set {n} shape ys tick at line bytes given wrote.Exhausted ref un = let both : ◌≡◌ {A = Outcome n} (out.Worn tick) out.Unset = sym (own_row at (out.Worn tick) (outcome_of shape ys at)) ∙ un in absurd (cc)

module _ {n m : ℕ} (shape : BankShape) (pace : Pace) (e : ℕ) where
  abbrev pub CoveredOn : List (TimedEvent n m) → ℕ → ℕ → Type 0
  CoveredOn zs row line = Covered (queue shape (core zs)) row line ⊎ ((u : ℕ) × (p : ℕ) × (outcome_of shape zs row ≡ out.Stored u p))

  -- a row with one of its line behind it stands until it is stored
  pub covered_on : (later zs : List (TimedEvent n m)) (row line : ℕ) → Lawful shape pace e (later ++ zs) → Covered (queue shape (core zs)) row line → CoveredOn (later ++ zs) row line
  covered_on [] zs row line l c = inl c
  covered_on (y ∷ later) zs row line l c = by (covered_on later zs row line l.1 c)
    where
      by : CoveredOn (later ++ zs) row line → CoveredOn (y ∷ later ++ zs) row line
      by (inl c) =
          let b = above_all shape pace e (later ++ zs) l.1 in
          stays_there shape pace e (λ es. Covered es row line) row (covered-kept row line) (later ++ zs) y y.happens l.0
          (spares_covered shape pace e (later ++ zs) y y.happens row line l.0 (stand_apart shape (core (later ++ zs)) b.0 b.1).queued_apart c) c
      by (inr stored) =
          inr (stored.0, stored.1, step_stays shape pace e (later ++ zs) y y.happens row l.1 (opens shape pace e (later ++ zs) l.1) l.0 (λ un. let k : ◌≡◌ {A = Outcome n} (out.Stored stored.0 stored.1) out.Unset = sym stored.2 ∙ un in absurd (cc)) ∙ stored.2)

module _ {n m : ℕ} (shape : BankShape) (pace : Pace) (e : ℕ) (all : List (TimedEvent n m)) where
  pub left_by : (t tick : ℕ) (o : Outcome n) → IsLeft o → ((u p : ℕ) → o ≡ out.Stored u p → t < u) → stands_by t tick false o ≡ true
  left_by t tick (out.Stored at place) left above = by_stored_later n t tick false at place (above at place refl)
  left_by t tick (out.Merged at) left above = refl
  left_by t tick _ left above = absurd left

  module _ (later now : List (TimedEvent n m)) (t : ℕ) (r : 1 ≤ pace.read) (i : 1 ≤ pace.iter)
      (l : Lawful shape pace e all) (same : all ≡ later ++ now)
      (up : last_tick now ≤ t) (ends : EndsAbove t later) where
    whole : Lawful shape pace e (later ++ now)
    whole = subst (λ (xs : List (TimedEvent n m)). Lawful shape pace e xs) same l

    here : Lawful shape pace e now
    here = lawful_before shape pace e later now whole

    -- an outcome that is set by now stays to the end
    kept : (row : ℕ) (o : Outcome n) → o ≢ out.Unset → outcome_of shape now row ≡ o → outcome_of shape all row ≡ o
    kept row o set is =
        ap (λ xs. outcome_of shape xs row) same
        ∙ stays shape pace e later now row whole (λ un. set (sym is ∙ un)) ∙ is

    pub gone : (row : ℕ) (o : Outcome n) → o ≢ out.Unset → outcome_of shape now row ≡ o
        → has_row (queue shape (core now)) row ≡ false
    gone row o set is =
        either (has_row (queue shape (core now)) row)
        (λ there. absurd (set (sym is ∙ (opens shape pace e now here).queued row there))) (λ f. f)

    -- what stands now is stored above the tick
    above : (row u p : ℕ) → has_row (queue shape (core now)) row ≡ true
        → outcome_of shape all row ≡ out.Stored u p → t < u
    above row u p there s =
        stored_over shape pace e t later now row u p ends
        (λ k. let both : ◌≡◌ {A = Outcome n} (out.Stored u p) out.Unset = sym k
        ∙ (opens shape pace e now here).queued row there in absurd (cc))
        whole (sym (ap (λ xs. outcome_of shape xs row) same) ∙ s)

    -- a write stands by the rows exactly where it stands by the events
    pub stands_same : (row line tick : ℕ) (between : List (Row n)) → Fate shape now between row line
        → stands_by t tick (list_any (accepted_of line) between) (outcome_of shape all row)
        ≡ has_row (queue shape (core now)) row
    stands_same row line tick between (inl alone) =
        subst (λ b. stands_by t tick b (outcome_of shape all row) ≡ true) (sym alone.1) (by last) ∙ sym there
      where
        there : has_row (queue shape (core now)) row ≡ true
        there = stands-row (queue shape (core now)) row line alone.0

        last : WriteFate shape all row
        last =
            subst (λ (xs : List (TimedEvent n m)). WriteFate shape xs row) (sym same)
            (write_fate shape pace e later now row whole (inl there))

        by : WriteFate shape all row → stands_by t tick false (outcome_of shape all row) ≡ true
        by (inl end) = ap (stands_by t tick false) ((opens shape pace e all l).queued row end)
        by (inr left) = left_by t tick (outcome_of shape all row) left (λ u p s. above row u p there s)
    stands_same row line tick between (inr (inl covered)) = by last ∙ sym there
      where
        there : has_row (queue shape (core now)) row ≡ true
        there = stands-row (queue shape (core now)) row line (covered-stands (queue shape (core now)) row line covered.0)

        last : CoveredOn shape pace e all row line
        last =
            subst (λ (xs : List (TimedEvent n m)). CoveredOn shape pace e xs row line) (sym same)
            (covered_on shape pace e later now row line whole covered.0)

        by : CoveredOn shape pace e all row line
            → stands_by t tick (list_any (accepted_of line) between) (outcome_of shape all row) ≡ true
        by (inl c) =
            ap (stands_by t tick (list_any (accepted_of line) between))
            ((opens shape pace e all l).queued row
            (stands-row (queue shape (core all)) row line
            (covered-stands (queue shape (core all)) row line c)))
        by (inr s) =
            ap (stands_by t tick (list_any (accepted_of line) between)) s.2
            ∙ by_stored_later n t tick (list_any (accepted_of line) between) s.0 s.1
            (above row s.0 s.1 there s.2)
    stands_same row line tick between (inr (inr (inl s))) =
        let at_most : s.0 ≤ last_tick now = stored_up_to shape pace e now row s.0 s.1 r i here s.2 in
        ap (stands_by t tick (list_any (accepted_of line) between))
        (kept row (out.Stored s.0 s.1) (λ un. absurd (cc)) s.2)
        ∙ by_stored_before n t tick (list_any (accepted_of line) between) s.0 s.1 (omega (arith, at_most, up))
        ∙ sym (gone row (out.Stored s.0 s.1) (λ un. absurd (cc)) s.2)
    stands_same row line tick between (inr (inr (inr into))) =
        ap (stands_by t tick (list_any (accepted_of line) between))
        (kept row (out.Merged into.0) (λ un. absurd (cc)) into.1)
        ∙ ap not (any_merges line into.0 between into.2) ∙ sym (gone row (out.Merged into.0) (λ un. absurd (cc)) into.1)

    pub stands_there : (row line : ℕ) (between : List (Row n)) → Fate shape now between row line
        → has_row (queue shape (core now)) row ≡ true
        → Stands (queue shape (core now)) row line
    stands_there row line between (inl alone) there = alone.0
    stands_there row line between (inr (inl covered)) there =
        covered-stands (queue shape (core now)) row line covered.0
    stands_there row line between (inr (inr (inl s))) there =
        absurd (cc (gone row (out.Stored s.0 s.1) (λ un. absurd (cc)) s.2, there))
    stands_there row line between (inr (inr (inr into))) there =
        absurd (cc (gone row (out.Merged into.0) (λ un. absurd (cc)) into.1, there))

    -- a refused one does not
    pub refused_same : (row tick : ℕ) (any : Bool)
        → accepts (ended tick (outcome_of shape all row)) ≡ false → outcome_of shape now row ≢ out.Unset
        → stands_by t tick any (outcome_of shape all row) ≡ has_row (queue shape (core now)) row
    refused_same row tick any isnt set =
        by_refused t tick any (outcome_of shape all row) isnt
        ∙ sym (gone row (outcome_of shape now row) set refl)

    queue_among : (mid ys : List (TimedEvent n m)) → now ≡ mid ++ ys
        → length (pending t (rows_after shape all mid) (rows_from shape all ys))
        ≡ hits (λ r. has_row (queue shape (core now)) r) (writes_in ys)
    queue_among mid [] at_split = refl
    queue_among mid (z ∷ ys) at_split =
        by z.happens z.cancels before.0 (onwards_at shape pace e all (later ++ mid) z ys l in_all)
        (λ row line f. stands_same row line z.tick (rows_after shape all mid)
        (subst (λ (xs : List (TimedEvent n m)). Fate shape xs (rows_after shape all mid) row line)
        (sym at_split) (fate shape pace e all later mid (z ∷ ys) row line l
        (opens shape pace e all l) in_split f)))
        (λ row set. subst (λ (xs : List (TimedEvent n m)). outcome_of shape xs row ≢ out.Unset) (sym at_split)
        (λ un. set (sym (stays shape pace e mid (z ∷ ys) row there set) ∙ un)))
        (subst (λ (rows : List (Row n)). length (pending t rows (rows_from shape all ys))
        ≡ hits (λ r. has_row (queue shape (core now)) r) (writes_in ys)) (rows_after-more shape all mid z)
        (queue_among (mid ++ z ∷ []) ys (at_split ∙ sym (append_assoc mid (z ∷ []) ys))))
      where
        there : Lawful shape pace e (mid ++ z ∷ ys)
        there = subst (λ (xs : List (TimedEvent n m)). Lawful shape pace e xs) at_split here

        before : Lawful shape pace e (z ∷ ys)
        before = lawful_before shape pace e mid (z ∷ ys) there

        in_split : all ≡ later ++ (mid ++ z ∷ ys)
        in_split = same ∙ ap (λ xs. later ++ xs) at_split

        in_all : all ≡ (later ++ mid) ++ z ∷ ys
        in_all = in_split ∙ sym (append_assoc later mid (z ∷ ys))

        by : (h : Happens n) (cancels : Bool) → MayCome shape pace e ys z h → Onwards shape all ys z.tick h
            → ((row line : ℕ) → FateBy shape ys z.tick h [] row line
            → stands_by t z.tick (list_any (accepted_of line) (rows_after shape all mid))
            (outcome_of shape all row) ≡ has_row (queue shape (core now)) row)
            → ((row : ℕ) → unwrap_or (outcome_with shape ys h z.tick row) (outcome_of shape ys row) ≢ out.Unset → outcome_of shape now row ≢ out.Unset)
            → length (pending t (row_with shape all h z.tick cancels ++ rows_after shape all mid)
            (rows_from shape all ys)) ≡ hits (λ r. has_row (queue shape (core now)) r) (writes_in ys)
            → length (pending t (rows_after shape all mid)
            (row_with shape all h z.tick cancels ++ rows_from shape all ys))
            ≡ hits (λ r. has_row (queue shape (core now)) r) (write_rows h ++ writes_in ys)
        by (Core (Write at line bytes given answer)) cancels may on f g ih = cond_length _ _ _ _ _ (kind (accepting answer) refl) ih
          where
            agrees : accepts (ended z.tick (outcome_of shape all at)) ≡ accepting answer
            agrees = outcome-accepts z.tick answer (ended z.tick (outcome_of shape all at)) (write_outcome shape pace e all ys z at line bytes given answer (opens shape pace e all l) may on)

            kind : (b : Bool) → accepting answer ≡ b
                → stands_by t z.tick (list_any (accepted_of line) (rows_after shape all mid))
                (outcome_of shape all at) ≡ has_row (queue shape (core now)) at
            kind true acc = f at line (inl (fate_new shape pace e all ys z at line bytes given answer before.1 may acc, refl))
            kind false ref = refused_same at z.tick (list_any (accepted_of line) (rows_after shape all mid)) (agrees ∙ ref) (g at (refused_set shape ys z.tick at line bytes given answer ref))
        by (Core (Cut tearing)) true may on f g ih = ih
        by _ _ may on f g ih = ih

    -- as many writes stand by the rows as by the events
    pub queue_length : length (pending t [] (rows_from shape all now)) ≡ length (queue shape (core now))
    queue_length =
        let b = above_all shape pace e now here in
        queue_among [] now refl ∙ entries-counted (queue shape (core now)) (writes_in now) b.0 (stand_apart shape (core now) b.0 b.1).queued_apart (writes-fall now b.0 b.1) (queue-asked shape now)

  room_at : 1 ≤ pace.read → 1 ≤ pace.iter → Lawful shape pace e all → (later : List (TimedEvent n m)) (x : TimedEvent n m) (ys : List (TimedEvent n m)) → all ≡ later ++ x ∷ ys
      → Passes (is_room_fair shape.writes) (rows_from shape all ys) (row_with shape all x.happens x.tick x.cancels) (rows_after shape all later)
  room_at r i l later x ys same =
      by x.happens x.cancels (may_at shape pace e all later x ys l same)
      (onwards_at shape pace e all later x ys l same) counted
    where
      here : Lawful shape pace e (x ∷ ys)
      here = lawful_before shape pace e later (x ∷ ys) (subst (λ (xs : List (TimedEvent n m)). Lawful shape pace e xs) same l)

      counted : ends_action x.happens ≡ false
          → length (pending x.tick [] (rows_from shape all ys)) ≡ length (queue shape (core ys))
      counted arrives =
          queue_length (later ++ x ∷ []) ys x.tick r i l (same ∙ sym (append_assoc later (x ∷ []) ys))
          (last_tick-rises shape pace e ys x r i here)
          (ends_at_row shape pace e later ys x r i
          (subst (λ (xs : List (TimedEvent n m)). Lawful shape pace e xs) same l) arrives)

      few : length (pending x.tick [] (rows_from shape all ys)) ≡ length (queue shape (core ys)) → nat_le (length (pending x.tick [] (rows_from shape all ys))) shape.writes ≡ true
      few count =
          let bound : length (queue shape (core ys)) ≤ shape.writes = (bound_law n (most_steps e) shape (core ys) (may_all shape pace e ys here.1)).writes in
          le-leb (length (pending x.tick [] (rows_from shape all ys))) shape.writes (omega (arith, count, bound))

      by : (h : Happens n) (cancels : Bool) → MayCome shape pace e ys x h → Onwards shape all ys x.tick h
          → (ends_action h ≡ false → length (pending x.tick [] (rows_from shape all ys)) ≡ length (queue shape (core ys)))
          → Passes (is_room_fair shape.writes) (rows_from shape all ys) (row_with shape all h x.tick cancels) (rows_after shape all later)
      by (Core (Write row line bytes given answer)) cancels may on count =
          and_from _ _ (few (count refl))
          (implied (is_full (ended x.tick (outcome_of shape all row))) _ (λ full.
          let was : answer ≡ wrote.Full =
          full_outcome x.tick answer (ended x.tick (outcome_of shape all row)) (write_outcome shape pace e all ys x row line bytes given answer (opens shape pace e all l) may on) full in
          ap (λ k. k == shape.writes) (count refl) ∙ full-room shape (core ys) line (sym was ∙ may.may.2)))
      by (Core (Read row line answer)) cancels may on count = and_from _ _ (few (count refl)) refl
      by (Core (Cut tearing)) false may on count = and_from _ _ (few (count refl)) refl
      by _ _ may on count = tt

pub queue_law : QueueLaw
queue_law n m e shape pace xs sized l = walk shape xs (is_room_fair shape.writes) [] xs refl (room_at shape pace e xs sized.read sized.iter l)
