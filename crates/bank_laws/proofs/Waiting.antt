-- The reads that wait, by the rows and by the events.
use Rattle.std.proofs.Common.{◌≡◌, ◌≢◌, ℕ, ◌<◌, ◌≤◌, ◌==◌, ◌&&◌, ◌||◌, ◌⊎◌, inl, inr, not, suc, Bool, true, false, List, [], ◌∷◌, ◌++◌, Some, None, drop, length, refl, sym, ap, ◌∙◌, subst, arith, cond, eqb, append_assoc}
use Rattle.std.{specs.List.list_any, specs.Prelude.{unwrap_or, nat_lt, nat_le}, proofs.lemmas.Bool.{eq-eqb, lt-ltb, le-ltb, le-leb, or_left, or_right, and_from, or_from}}
use Rattle.std.proofs.lemmas.List.Folds.{list_any-append}
use Rattle.result_rows.specs.declared.Outcome.{Outcome}
use Rattle.result_rows.specs.declared.Outcome.TheVariants as out
use Rattle.row_rules.specs.{Answers.{is_lost, read_after}, Queueing.waiting, Rows.is_cut, declared.Row.Row}
use Rattle.bank_shape.specs.{Pausing.{is_cancelling, most_cancels}, declared.BankShape.BankShape, declared.answer.ReadAnswer.ReadAnswer, declared.pace.Pace.Pace}
use Rattle.bank_shape.specs.declared.answer.ReadAnswer.TheVariants as came
use Rattle.bank_model.specs.{Answers.{read_answer, MayAll}, Events.{BankEvent, Write, Read, Serve, Cut, RowsBelow, newest}, History.{Awaited, awaited, queue, waits}}
use Rattle.bank_model.specs.{Lawful.{Lawful, MayCome, would_cancel}, Running.{running_at, cancels_after}, Sensing.most_steps}
use Rattle.bank_model.specs.Timing.{Happens, Core, Regs, TimedEvent, core, core_of, last_tick, is_empty, is_writing}
use Rattle.bank_laws.specs.{Outcomes.{on_row, outcome_with, outcome_of, row_with, rows_from}, RowLaws.{waits_fit, is_wait_fair, WaitLaw}, Standing.has_wait, Ticks.ends_action}
use Rattle.bank_laws.proofs.{Answering.{IsFirst, served-first}, Counting.{among, Falling, falling-more, hits, waits-counted}, Ending.{Onwards, own_row, own_answer}}
use Rattle.bank_laws.proofs.{Entries.{either, no_wait-push, no_wait-drop}, Fates.{Awaits, IsSettled, ReadFate, awaits-new}, Holding.bound_law, Later.{EndsAbove, ends_at_row}}
use Rattle.bank_laws.proofs.{Serves.{may_at, onwards_at}, Settling.{opens, above_all, lawful_before, step_stays, stays}, Standing.stand_apart, Ticks.last_tick-rises}
use Rattle.bank_laws.proofs.Walking.{Passes, walk, rows_after, rows_after-more}
use Rattle.masked_bytes.specs.{Entries.layer_of, Masked.gives_all}

not_and : (a b : Bool) → b ≡ true → (a && not b) ≡ false
not_and a b h = grind arith

-- a read that would cancel finds no read that waits
pub cancels-none : (a b c d : Bool) → (a && (b && (c && d))) ≡ true → c ≡ true
cancels-none a b c d h = grind arith

empty-lacks : (ws : List Awaited) (row : ℕ) → is_empty ws ≡ true → has_wait ws row ≡ false
empty-lacks ws row h = grind arith

pub wait-push : (ws : List Awaited) (w : Awaited) (row : ℕ) → has_wait ws row ≡ true → has_wait (ws ++ w ∷ []) row ≡ true
wait-push [] w row h = absurd (cc)
wait-push (v ∷ ws) w row h = by (v.row == row) (λ k. wait-push ws w row k) h
  where
    by : (b : Bool) → (has_wait ws row ≡ true → has_wait (ws ++ w ∷ []) row ≡ true) → (b || has_wait ws row) ≡ true → (b || has_wait (ws ++ w ∷ []) row) ≡ true
    by true go h = refl
    by false go h = go h

pub wait-new : (ws : List Awaited) (w : Awaited) → has_wait (ws ++ w ∷ []) w.row ≡ true
wait-new [] w = or_left (w.row == w.row) false (eq-eqb w.row w.row refl)
wait-new (v ∷ ws) w = or_right (v.row == w.row) _ (wait-new ws w)

module _ {n m : ℕ} (shape : BankShape) (pace : Pace) (e : ℕ) (all : List (TimedEvent n m)) where
  -- a read that waits waits on, is read, or is lost at a cut that has a row
  abbrev Waits : List (TimedEvent n m) → TimedEvent n m → Happens n → ℕ → Type 0
  Waits zs x h row =
      ((has_wait (waits shape (core_of h (core zs))) row ≡ true) × (list_any is_cut (row_with shape all h x.tick x.cancels) ≡ false))
      ⊎ (((ends_action h ≡ true) × (p : ℕ) × (bytes : List ℕ) × (unwrap_or (outcome_with shape zs h x.tick row) (outcome_of shape zs row) ≡ out.Read x.tick p bytes))
      ⊎ ((unwrap_or (outcome_with shape zs h x.tick row) (outcome_of shape zs row) ≡ out.Lost x.tick) × (list_any is_cut (row_with shape all h x.tick x.cancels) ≡ true)))

  wait_step : (zs : List (TimedEvent n m)) (x : TimedEvent n m) (h : Happens n) (row : ℕ) → MayCome shape pace e zs x h → has_wait (waits shape (core zs)) row ≡ true → Waits zs x h row
  wait_step zs x (Core (Read at line came.Waiting)) row may there = inl (wait-push (waits shape (core zs)) _ row there, refl)
  wait_step zs x (Core (Serve answer)) row may there = by (waits shape (core zs)) (served-first shape (core zs) (waits shape (core zs)) answer may.may) there
    where
      by : (ws : List Awaited) → IsFirst ws answer.row → has_wait ws row ≡ true
          → ((has_wait (drop 1 ws) row ≡ true) × (false ≡ false))
          ⊎ (((true ≡ true) × (p : ℕ) × (bytes : List ℕ) × (unwrap_or (on_row answer.row row (out.Read x.tick answer.place answer.bytes)) (outcome_of shape zs row) ≡ out.Read x.tick p bytes))
          ⊎ ((unwrap_or (on_row answer.row row (out.Read x.tick answer.place answer.bytes)) (outcome_of shape zs row) ≡ out.Lost x.tick) × (false ≡ true)))
      by [] first there = absurd first
      by (w ∷ ws) first there = own (eqb answer.row row) refl
        where
          rest : (b : Bool) → b ≡ false → (b || has_wait ws row) ≡ true → has_wait ws row ≡ true
          rest b ne k = grind arith

          own : (b : Bool) → eqb answer.row row ≡ b
              → ((has_wait ws row ≡ true) × (false ≡ false))
              ⊎ (((true ≡ true) × (p : ℕ) × (bytes : List ℕ) × (unwrap_or (cond b (Some (out.Read x.tick answer.place answer.bytes)) None) (outcome_of shape zs row) ≡ out.Read x.tick p bytes))
              ⊎ ((unwrap_or (cond b (Some (out.Read x.tick answer.place answer.bytes)) None) (outcome_of shape zs row) ≡ out.Lost x.tick) × (false ≡ true)))
          own true is = inr (inl (refl, answer.place, answer.bytes, refl))
          own false is = inl (rest (w.row == row) (subst (λ r. (r == row) ≡ false) first is) there, refl)
  wait_step zs x (Core (Cut tearing)) row may there = by x.cancels may.on_time.2
    where
      lost : (b : Bool) → b ≡ true → unwrap_or (cond b (Some (out.Lost x.tick)) None) (outcome_of shape zs row) ≡ out.Lost x.tick
      lost b is = grind arith

      by : (b : Bool) → (b ≡ true → would_cancel shape (core zs) pace.policy (running_at shape pace zs x.tick) (cancels_after zs) ≡ true)
          → ((false ≡ true) × (list_any is_cut (row_with shape all (Core (Cut tearing)) x.tick b) ≡ false))
          ⊎ (((false ≡ true) × (p : ℕ) × (bytes : List ℕ) × (unwrap_or (outcome_with shape zs (Core (Cut tearing)) x.tick row) (outcome_of shape zs row) ≡ out.Read x.tick p bytes))
          ⊎ ((unwrap_or (outcome_with shape zs (Core (Cut tearing)) x.tick row) (outcome_of shape zs row) ≡ out.Lost x.tick) × (list_any is_cut (row_with shape all (Core (Cut tearing)) x.tick b) ≡ true)))
      by true none =
          let empty : is_empty (waits shape (core zs)) ≡ true =
          cancels-none (is_cancelling pace.policy) (is_writing (running_at shape pace zs x.tick)) (is_empty (waits shape (core zs))) (nat_lt (cancels_after zs) most_cancels) (none refl) in
          absurd (cc (empty-lacks (waits shape (core zs)) row empty, there))
      by false none = inr (inr (lost (has_wait (waits shape (core zs)) row) there, refl))
  wait_step zs x _ row may there = inl (there, refl)

  -- a read that has an outcome: it is read no later than the last event, or lost at a cut behind it
  pub record IsPast (o : Outcome n) (last : ℕ) (between : List (Row n)) : Type 0 where
    pub set : o ≢ out.Unset
    pub ticks : (t : ℕ) → last ≤ t → read_after t o ≡ false
    pub lost : (is_lost o && not (list_any is_cut between)) ≡ false

  abbrev pub ReadState : List (TimedEvent n m) → List (Row n) → ℕ → Type 0
  ReadState zs between row =
      ((has_wait (waits shape (core zs)) row ≡ true) × (list_any is_cut between ≡ false)) ⊎ IsPast (outcome_of shape zs row) (last_tick zs) between

  past_more : (o : Outcome n) (last next : ℕ) (between rows : List (Row n)) → last ≤ next → IsPast o last between → IsPast o next (between ++ rows)
  past_more o last next between rows le p = record {
    set = p.set;
    ticks = λ t k. p.ticks t (omega (arith, le, k));
    lost = by (is_lost o) (list_any is_cut between) p.lost (list_any-append is_cut between rows);
  }
    where
      by : (a b : Bool) → (a && not b) ≡ false → list_any is_cut (between ++ rows) ≡ (b || list_any is_cut rows) → (a && not (list_any is_cut (between ++ rows))) ≡ false
      by true true h is = not_and true _ is
      by true false h is = absurd (cc)
      by false b h is = refl

  state_step : (zs : List (TimedEvent n m)) (x : TimedEvent n m) (h : Happens n) (between : List (Row n)) (row : ℕ) → Lawful shape pace e zs → MayCome shape pace e zs x h → last_tick zs ≤ x.tick → ReadState zs between row
      → ((has_wait (waits shape (core_of h (core zs))) row ≡ true) × (list_any is_cut (between ++ row_with shape all h x.tick x.cancels) ≡ false))
      ⊎ IsPast (unwrap_or (outcome_with shape zs h x.tick row) (outcome_of shape zs row)) x.tick (between ++ row_with shape all h x.tick x.cancels)
  state_step zs x h between row l may rises (inl w) = by (wait_step zs x h row may w.0)
    where
      by : Waits zs x h row → ((has_wait (waits shape (core_of h (core zs))) row ≡ true) × (list_any is_cut (between ++ row_with shape all h x.tick x.cancels) ≡ false))
          ⊎ IsPast (unwrap_or (outcome_with shape zs h x.tick row) (outcome_of shape zs row)) x.tick (between ++ row_with shape all h x.tick x.cancels)
      by (inl on) = inl (on.0, list_any-append is_cut between _ ∙ or_from (list_any is_cut between) _ w.1 on.1)
      by (inr (inl read)) =
          inr (subst (λ (o : Outcome n). IsPast o x.tick (between ++ row_with shape all h x.tick x.cancels)) (sym read.3)
          (record { set = λ is. absurd (cc); ticks = λ t le. le-ltb t x.tick le; lost = refl }))
      by (inr (inr lost)) =
          inr (subst (λ (o : Outcome n). IsPast o x.tick (between ++ row_with shape all h x.tick x.cancels)) (sym lost.0)
          (record { set = λ is. absurd (cc); ticks = λ t le. refl; lost = not_and true _ (list_any-append is_cut between _ ∙ or_right (list_any is_cut between) _ lost.1) }))
  state_step zs x h between row l may rises (inr past) =
      inr (subst (λ (o : Outcome n). IsPast o x.tick (between ++ row_with shape all h x.tick x.cancels)) (sym (step_stays shape pace e zs x h row l (opens shape pace e zs l) may past.set))
      (past_more (outcome_of shape zs row) (last_tick zs) x.tick between _ rises past))

  pub state : (later zs : List (TimedEvent n m)) (row : ℕ) → 1 ≤ pace.read → 1 ≤ pace.iter → Lawful shape pace e (later ++ zs) → ReadState zs [] row → ReadState (later ++ zs) (rows_after shape all later) row
  state [] zs row r i l s = s
  state (x ∷ later) zs row r i l s = state_step (later ++ zs) x x.happens (rows_after shape all later) row l.1 l.0 (last_tick-rises shape pace e (later ++ zs) x r i l) (state later zs row r i l.1 s)

  -- a read that waits waits on, or is read above a tick, or lost
  abbrev pub Onward : ℕ → List (TimedEvent n m) → ℕ → Type 0
  Onward t zs row = (has_wait (waits shape (core zs)) row ≡ true) ⊎ ((outcome_of shape zs row ≢ out.Unset) × ((read_after t (outcome_of shape zs row) || is_lost (outcome_of shape zs row)) ≡ true))

  pub onward_step : (t : ℕ) (zs : List (TimedEvent n m)) (x : TimedEvent n m) (h : Happens n) (row : ℕ) → Lawful shape pace e zs → MayCome shape pace e zs x h → (ends_action h ≡ true → t < x.tick) → Onward t zs row
      → (has_wait (waits shape (core_of h (core zs))) row ≡ true)
      ⊎ ((unwrap_or (outcome_with shape zs h x.tick row) (outcome_of shape zs row) ≢ out.Unset)
      × ((read_after t (unwrap_or (outcome_with shape zs h x.tick row) (outcome_of shape zs row)) || is_lost (unwrap_or (outcome_with shape zs h x.tick row) (outcome_of shape zs row))) ≡ true))
  onward_step t zs x h row l may above (inl there) = by (wait_step zs x h row may there)
    where
      Goal : Outcome n → Type 0
      Goal o = (o ≢ out.Unset) × ((read_after t o || is_lost o) ≡ true)

      by : Waits zs x h row → (has_wait (waits shape (core_of h (core zs))) row ≡ true) ⊎ Goal (unwrap_or (outcome_with shape zs h x.tick row) (outcome_of shape zs row))
      by (inl on) = inl on.0
      by (inr (inl read)) = inr (subst (λ (o : Outcome n). Goal o) (sym read.3) ((λ is. absurd (cc)), or_left (nat_lt t x.tick) false (lt-ltb t x.tick (above read.0))))
      by (inr (inr lost)) = inr (subst (λ (o : Outcome n). Goal o) (sym lost.0) ((λ is. absurd (cc)), refl))
  onward_step t zs x h row l may above (inr past) =
      let same = step_stays shape pace e zs x h row l (opens shape pace e zs l) may past.0 in
      inr (subst (λ (o : Outcome n). (o ≢ out.Unset) × ((read_after t o || is_lost o) ≡ true)) (sym same) past)

  onward : (t : ℕ) (later zs : List (TimedEvent n m)) (row : ℕ) → EndsAbove t later
      → Lawful shape pace e (later ++ zs) → Onward t zs row
      → Onward t (later ++ zs) row
  onward t [] zs row above l o = o
  onward t (x ∷ later) zs row above l o =
      onward_step t (later ++ zs) x x.happens row l.1 l.0 above.0 (onward t later zs row above.1 l.1 o)

  comb_true : (a b c : Bool) → (a || b) ≡ true → c ≡ false → (a || (b && not c)) ≡ true
  comb_true a b c h k = grind arith

  -- a read awaits its answer by the rows exactly where it waits by the events, at any tick up to the next end
  -- of an action
  awaits_same : (later now : List (TimedEvent n m)) (t : ℕ) (between : List (Row n)) (row : ℕ)
      → Lawful shape pace e all → all ≡ later ++ now
      → last_tick now ≤ t → EndsAbove t later → waits shape (core all) ≡ [] → ReadState now between row
      → (read_after t (outcome_of shape all row)
      || (is_lost (outcome_of shape all row) && not (list_any is_cut between)))
      ≡ has_wait (waits shape (core now)) row
  awaits_same later now t between row l same up ends none state = by state
    where
      whole : Lawful shape pace e (later ++ now)
      whole = subst (λ (xs : List (TimedEvent n m)). Lawful shape pace e xs) same l

      here : Lawful shape pace e now
      here = lawful_before shape pace e later now whole

      last : Onward t all row
          → (read_after t (outcome_of shape all row) || is_lost (outcome_of shape all row)) ≡ true
      last (inl there) = absurd (subst (λ ws. has_wait ws row ≡ true → ⊥) (sym none) (λ k. absurd (cc)) there)
      last (inr past) = past.1

      by : ReadState now between row
          → (read_after t (outcome_of shape all row)
          || (is_lost (outcome_of shape all row) && not (list_any is_cut between)))
          ≡ has_wait (waits shape (core now)) row
      by (inl w) =
          comb_true (read_after t (outcome_of shape all row)) (is_lost (outcome_of shape all row))
          (list_any is_cut between)
          (last (subst (λ (xs : List (TimedEvent n m)). Onward t xs row) (sym same)
          (onward t later now row ends whole (inl w.0)))) w.1
          ∙ sym w.0
      by (inr past) =
          let kept : outcome_of shape all row ≡ outcome_of shape now row =
          ap (λ xs. outcome_of shape xs row) same ∙ stays shape pace e later now row whole past.set in
          let gone : has_wait (waits shape (core now)) row ≡ false =
          either (has_wait (waits shape (core now)) row)
          (λ there. absurd (past.set ((opens shape pace e now here).waiting row there))) (λ is. is) in
          subst (λ (o : Outcome n). (read_after t o || (is_lost o && not (list_any is_cut between))) ≡ false)
          (sym kept)
          (or_from (read_after t (outcome_of shape now row)) _ (past.ticks t up) past.lost)
          ∙ sym gone

-- the rows of the reads, the newest first
abbrev pub read_rows : {n : ℕ} → Happens n → List ℕ
read_rows (Core (Read row line answer)) = row ∷ []
read_rows _ = []

abbrev pub reads_in : {n m : ℕ} → List (TimedEvent n m) → List ℕ
reads_in [] = []
reads_in (x ∷ xs) = read_rows x.happens ++ reads_in xs

pub reads-fall : {n m : ℕ} (zs : List (TimedEvent n m)) (bound : ℕ) → RowsBelow (core zs) bound → Falling (reads_in zs) bound
reads-fall [] bound b = tt
reads-fall {n} {m} (z ∷ zs) bound b = by z.happens (λ bound b. reads-fall zs bound b) b
  where
    by : (h : Happens n) → ((bound : ℕ) → RowsBelow (core zs) bound → Falling (reads_in zs) bound) → RowsBelow (core_of h (core zs)) bound → Falling (read_rows h ++ reads_in zs) bound
    by (Core (Write at line bytes given answer)) go b = falling-more (reads_in zs) at bound (omega (arith, b.0)) (go at b.1)
    by (Core (Read at line answer)) go b = (b.0, go at b.1)
    by _ go b = go bound b

pub waits-asked : {n m : ℕ} (shape : BankShape) (zs : List (TimedEvent n m)) (r : ℕ) → has_wait (waits shape (core zs)) r ≡ true → among (reads_in zs) r ≡ true
waits-asked shape [] r there = absurd (cc)
waits-asked {n} {m} shape (z ∷ zs) r there = by z.happens (λ t. waits-asked shape zs r t) there
  where
    by : (h : Happens n) → (has_wait (waits shape (core zs)) r ≡ true → among (reads_in zs) r ≡ true) → has_wait (waits shape (core_of h (core zs))) r ≡ true → among (read_rows h ++ reads_in zs) r ≡ true
    by (Core (Read at line came.Waiting)) go there =
        either (has_wait (waits shape (core zs)) r) (λ t. or_right (at == r) _ (go t))
        (λ f. either (eqb at r) (λ is. or_left (at == r) _ is)
        (λ ne. absurd (cc (no_wait-push (waits shape (core zs)) (awaited at line (newest (core zs) line) (layer_of (queue shape (core zs)) line)) r f ne, there))))
    by (Core (Read at line _)) go there = or_right (at == r) _ (go there)
    by (Core (Serve answer)) go there = either (has_wait (waits shape (core zs)) r) go (λ f. absurd (cc (no_wait-drop (waits shape (core zs)) r f, there)))
    by (Core (Cut tearing)) go there = absurd (cc)
    by _ go there = go there

pub may_all : {n m : ℕ} (shape : BankShape) (pace : Pace) (e : ℕ) (zs : List (TimedEvent n m)) → Lawful shape pace e zs → MayAll shape (most_steps e) (core zs)
may_all shape pace e [] l = tt
may_all {n} {m} shape pace e (z ∷ zs) l = by z.happens l.0 (may_all shape pace e zs l.1)
  where
    by : (h : Happens n) → MayCome shape pace e zs z h → MayAll shape (most_steps e) (core zs) → MayAll shape (most_steps e) (core_of h (core zs))
    by (Core event) may rest = (may.may, rest)
    by (Regs event) may rest = rest

pub cond_length : {X : Type 0} (a b : Bool) (q : X) (xs : List X) (k : ℕ) → a ≡ b → length xs ≡ k → length (cond a (q ∷ xs) xs) ≡ cond b (suc k) k
cond_length a b q xs k is same = grind arith

module _ {n m : ℕ} (shape : BankShape) (pace : Pace) (e : ℕ) (all : List (TimedEvent n m)) where
  -- how the read of an event begins
  abbrev pub StateBy : List (TimedEvent n m) → ℕ → Happens n → ℕ → Type 0
  StateBy ys tick h row = ((has_wait (waits shape (core_of h (core ys))) row ≡ true) × (false ≡ false)) ⊎ IsPast shape pace e all (unwrap_or (outcome_with shape ys h tick row) (outcome_of shape ys row)) tick []

  pub state_new : (ys : List (TimedEvent n m)) (tick row line : ℕ) (answer : ReadAnswer n) → StateBy ys tick (Core (Read row line answer)) row
  state_new ys tick row line came.Waiting = inl (wait-new (waits shape (core ys)) (awaited row line (newest (core ys) line) (layer_of (queue shape (core ys)) line)), refl)
  state_new ys tick row line came.Busy =
      inr (subst (λ (o : Outcome n). IsPast shape pace e all o tick []) (sym (own_row row (out.Busy tick) (outcome_of shape ys row))) (record { set = λ is. absurd (cc); ticks = λ t le. refl; lost = refl }))
  state_new ys tick row line (came.Forwarded bytes) =
      inr (subst (λ (o : Outcome n). IsPast shape pace e all o tick []) (sym (own_row row (out.Forwarded tick bytes) (outcome_of shape ys row))) (record { set = λ is. absurd (cc); ticks = λ t le. refl; lost = refl }))

  module _ (later now : List (TimedEvent n m)) (t : ℕ) (r : 1 ≤ pace.read) (i : 1 ≤ pace.iter)
      (l : Lawful shape pace e all) (same : all ≡ later ++ now)
      (up : last_tick now ≤ t) (ends : EndsAbove t later) (none : waits shape (core all) ≡ []) where
    here : Lawful shape pace e now
    here =
        lawful_before shape pace e later now
        (subst (λ (xs : List (TimedEvent n m)). Lawful shape pace e xs) same l)

    waits_among : (mid ys : List (TimedEvent n m)) → now ≡ mid ++ ys
        → length (waiting t (rows_after shape all mid) (rows_from shape all ys))
        ≡ hits (λ row. has_wait (waits shape (core now)) row) (reads_in ys)
    waits_among mid [] split = refl
    waits_among mid (z ∷ ys) split =
        by z.happens z.cancels
        (λ row s. awaits_same shape pace e all later now t (rows_after shape all mid) row l same up ends none
        (subst (λ (xs : List (TimedEvent n m)). ReadState shape pace e all xs (rows_after shape all mid) row)
        (sym split) (state shape pace e all mid (z ∷ ys) row r i there s)))
        (subst (λ (rows : List (Row n)). length (waiting t rows (rows_from shape all ys))
        ≡ hits (λ row. has_wait (waits shape (core now)) row) (reads_in ys)) (rows_after-more shape all mid z)
        (waits_among (mid ++ z ∷ []) ys (split ∙ sym (append_assoc mid (z ∷ []) ys))))
      where
        there : Lawful shape pace e (mid ++ z ∷ ys)
        there = subst (λ (xs : List (TimedEvent n m)). Lawful shape pace e xs) split here

        by : (h : Happens n) (cancels : Bool)
            → ((row : ℕ) → StateBy ys z.tick h row
            → (read_after t (outcome_of shape all row)
            || (is_lost (outcome_of shape all row) && not (list_any is_cut (rows_after shape all mid))))
            ≡ has_wait (waits shape (core now)) row)
            → length (waiting t (row_with shape all h z.tick cancels ++ rows_after shape all mid)
            (rows_from shape all ys)) ≡ hits (λ row. has_wait (waits shape (core now)) row) (reads_in ys)
            → length (waiting t (rows_after shape all mid)
            (row_with shape all h z.tick cancels ++ rows_from shape all ys))
            ≡ hits (λ row. has_wait (waits shape (core now)) row) (read_rows h ++ reads_in ys)
        by (Core (Read at line answer)) cancels f ih =
            cond_length _ _ _ _ _ (f at (state_new ys z.tick at line answer)) ih
        by (Core (Cut tearing)) true f ih = ih
        by _ _ f ih = ih

    -- as many reads wait by the rows as by the events
    pub awaiting_length : length (waiting t [] (rows_from shape all now)) ≡ length (waits shape (core now))
    awaiting_length =
        let b = above_all shape pace e now here in
        waits_among [] now refl
        ∙ waits-counted (waits shape (core now)) (reads_in now) b.0
        (stand_apart shape (core now) b.0 b.1).waiting_apart (reads-fall now b.0 b.1) (waits-asked shape now)

  -- so too at a row
  pub waits_length : (later : List (TimedEvent n m)) (x : TimedEvent n m) (ys : List (TimedEvent n m)) → 1 ≤ pace.read → 1 ≤ pace.iter → Lawful shape pace e all → waits shape (core all) ≡ [] → all ≡ later ++ x ∷ ys → ends_action x.happens ≡ false
      → length (waiting x.tick [] (rows_from shape all ys)) ≡ length (waits shape (core ys))
  waits_length later x ys r i l none same arrives =
      let whole : Lawful shape pace e (later ++ x ∷ ys) =
      subst (λ (xs : List (TimedEvent n m)). Lawful shape pace e xs) same l in
      awaiting_length (later ++ x ∷ []) ys x.tick r i l (same ∙ sym (append_assoc later (x ∷ []) ys))
      (last_tick-rises shape pace e ys x r i (lawful_before shape pace e later (x ∷ ys) whole))
      (ends_at_row shape pace e later ys x r i whole arrives) none

  pub read_room : (h : List (BankEvent n)) (line : ℕ) (answer : ReadAnswer n) → answer ≡ read_answer shape h line
      → (answer ≡ came.Busy → (length (waits shape h) == shape.reads) ≡ true) × (answer ≡ came.Waiting → (length (waits shape h) == shape.reads) ≡ false)
  read_room h line answer a = by (gives_all ((layer_of (queue shape h) line).given)) (eqb (length (waits shape h)) shape.reads) refl a
    where
      by : (b c : Bool) → eqb (length (waits shape h)) shape.reads ≡ c → answer ≡ cond b (came.Forwarded (newest h line)) (cond c came.Busy came.Waiting)
          → (answer ≡ came.Busy → eqb (length (waits shape h)) shape.reads ≡ true) × (answer ≡ came.Waiting → eqb (length (waits shape h)) shape.reads ≡ false)
      by true c is a =
          ((λ k. let no_busy : ◌≡◌ {A = ReadAnswer n} (came.Forwarded (newest h line)) came.Busy = sym a ∙ k in absurd (cc)), λ k. let no_wait : ◌≡◌ {A = ReadAnswer n} (came.Forwarded (newest h line)) came.Waiting = sym a ∙ k in absurd (cc))
      by false true is a = ((λ k. is), λ k. let both : ◌≡◌ {A = ReadAnswer n} came.Busy came.Waiting = sym a ∙ k in absurd (cc))
      by false false is a = ((λ k. let both : ◌≡◌ {A = ReadAnswer n} came.Waiting came.Busy = sym a ∙ k in absurd (cc)), λ k. is)

  pub fits_busy : (count tick : ℕ) (o : Outcome n) → o ≡ out.Busy tick → (count == shape.reads) ≡ true → waits_fit shape.reads count o ≡ true
  fits_busy count tick o is full = ap (waits_fit shape.reads count) is ∙ subst (λ b. cond b true false ≡ true) (sym full) refl

  pub fits_waiting : (count : ℕ) (owed : List ℕ) (o : Outcome n) → IsSettled owed o → (count == shape.reads) ≡ false → waits_fit shape.reads count o ≡ true
  fits_waiting count owed (out.Read at place bytes) s room = subst (λ b. cond b false true ≡ true) (sym room) refl
  fits_waiting count owed (out.Lost at) s room = subst (λ b. cond b false true ≡ true) (sym room) refl
  fits_waiting count owed _ s room = absurd s

  pub settled_all : (row : ℕ) (owed : List ℕ) → waits shape (core all) ≡ [] → ReadFate shape all row owed → IsSettled owed (outcome_of shape all row)
  settled_all row owed none (inl a) = absurd (subst (λ ws. Awaits ws row owed) none a)
  settled_all row owed none (inr s) = s

  wait_at : 1 ≤ pace.read → 1 ≤ pace.iter → Lawful shape pace e all → waits shape (core all) ≡ [] → (later : List (TimedEvent n m)) (x : TimedEvent n m) (ys : List (TimedEvent n m)) → all ≡ later ++ x ∷ ys
      → Passes (is_wait_fair shape.reads) (rows_from shape all ys) (row_with shape all x.happens x.tick x.cancels) (rows_after shape all later)
  wait_at r i l none later x ys same =
      by x.happens x.cancels (may_at shape pace e all later x ys l same) (onwards_at shape pace e all later x ys l same) (λ arrives. waits_length later x ys r i l none same arrives)
    where
      here : Lawful shape pace e (x ∷ ys)
      here = lawful_before shape pace e later (x ∷ ys) (subst (λ (xs : List (TimedEvent n m)). Lawful shape pace e xs) same l)

      few : length (waiting x.tick [] (rows_from shape all ys)) ≡ length (waits shape (core ys)) → nat_le (length (waiting x.tick [] (rows_from shape all ys))) shape.reads ≡ true
      few count =
          let bound : length (waits shape (core ys)) ≤ shape.reads = (bound_law n (most_steps e) shape (core ys) (may_all shape pace e ys here.1)).reads in
          le-leb (length (waiting x.tick [] (rows_from shape all ys))) shape.reads (omega (arith, count, bound))

      by : (h : Happens n) (cancels : Bool) → MayCome shape pace e ys x h → Onwards shape all ys x.tick h
          → (ends_action h ≡ false → length (waiting x.tick [] (rows_from shape all ys)) ≡ length (waits shape (core ys)))
          → Passes (is_wait_fair shape.reads) (rows_from shape all ys) (row_with shape all h x.tick cancels) (rows_after shape all later)
      by (Core (Write row line bytes given answer)) cancels may on count = and_from _ _ (few (count refl)) refl
      by (Core (Read row line (came.Forwarded bytes))) cancels may on count =
          and_from _ _ (few (count refl))
          (ap (waits_fit shape.reads (length (waiting x.tick [] (rows_from shape all ys)))) (own_answer shape pace e all ys x (Core (Read row line (came.Forwarded bytes))) row (out.Forwarded x.tick bytes) on refl (λ is. absurd (cc))))
      by (Core (Read row line came.Busy)) cancels may on count =
          and_from _ _ (few (count refl))
          (fits_busy (length (waiting x.tick [] (rows_from shape all ys))) x.tick (outcome_of shape all row) (own_answer shape pace e all ys x (Core (Read row line came.Busy)) row (out.Busy x.tick) on refl (λ is. absurd (cc)))
          (ap (λ k. k == shape.reads) (count refl) ∙ (read_room (core ys) line came.Busy may.may.1).0 refl))
      by (Core (Read row line came.Waiting)) cancels may on count =
          and_from _ _ (few (count refl))
          (fits_waiting (length (waiting x.tick [] (rows_from shape all ys))) (newest (core ys) line) (outcome_of shape all row)
          (settled_all row (newest (core ys) line) none
          (on.reads row (newest (core ys) line) (inl (awaits-new (waits shape (core ys)) (awaited row line (newest (core ys) line) (layer_of (queue shape (core ys)) line))))))
          (ap (λ k. k == shape.reads) (count refl) ∙ (read_room (core ys) line came.Waiting may.may.1).1 refl))
      by (Core (Cut tearing)) false may on count = and_from _ _ (few (count refl)) refl
      by _ _ may on count = tt

pub wait_law : WaitLaw
wait_law n m e shape pace xs sized l still =
    walk shape xs (is_wait_fair shape.reads) [] xs refl (wait_at shape pace e xs sized.read sized.iter l still.unawaited)
