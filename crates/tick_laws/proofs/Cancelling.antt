-- Where a read finds a line write that it may not cancel, four reads came since the last store.
use Rattle.std.proofs.Common.{◌≡◌, ℕ, ◌+◌, ◌<◌, ◌≤◌, ◌==◌, ◌&&◌, ◌||◌, ◌⊎◌, inl, inr, not, Bool, true, false, List, [], ◌∷◌, ◌++◌, Option, Some, None, refl, sym, ap, ◌∙◌, subst, arith, cond, append_assoc}
use Rattle.std.specs.Prelude.{unwrap_or, nat_lt, nat_le, max, count_by, if◌then◌else◌}
use Rattle.std.proofs.lemmas.Bool.{le-ltb, le-leb, leb-true, ltb-true, ltb-false, eq-eqb, cases_lt, and_from, false_from_ne_true}
use Rattle.result_rows.specs.declared.Outcome.{Outcome}
use Rattle.result_rows.specs.declared.Outcome.TheVariants as out
use Rattle.row_rules.specs.{Answers.{is_answered, is_lost}, Rows.{asks_read, asks_write}, Ticking.{store_up_to, last_store, came_since}, declared.Asks.TheVariants.{Reads, Writes}}
use Rattle.row_rules.specs.declared.Row.{Row}
use Rattle.masked_bytes.{specs.Entries.layer_of, proofs.Counting.count-cons}
use Rattle.bank_shape.specs.{Acting.{choice, chosen_by}, Pausing.{is_cancelling, most_cancels, gives_way}, declared.BankShape.BankShape, declared.clock.Action.Action}
use Rattle.bank_shape.specs.{declared.clock.Doing.Doing, declared.clock.Doing.TheVariants.Serving, declared.pace.Pace.Pace, declared.pace.Policy.Policy}
use Rattle.bank_shape.specs.declared.answer.ReadAnswer.TheVariants as came
use Rattle.bank_shape.specs.declared.answer.Keep.TheVariants as keep
use Rattle.bank_shape.specs.declared.answer.Step.TheVariants as did
use Rattle.bank_model.specs.{Changes.change_after, Events.{BankEvent, Write, Read, Serve, Begin, Iterate, Cut, newest}, History.{Awaited, awaited, queue, waits}}
use Rattle.bank_model.specs.Lawful.{Lawful, MayCome, FollowsCancel, IsRead, IsUncancelled}
use Rattle.bank_model.specs.Running.{busy_after, ready_after, drops_begin, started, left_by, running, running_at, chosen_after, cancels_with, cancels_after}
use Rattle.bank_model.specs.Timing.{Happens, Core, Regs, KeepBegin, KeepIterate, KeepCut, TimedEvent, is_writing, is_empty, core, core_of, last_tick}
use Rattle.bank_laws.{specs.Outcomes.{outcome_with, outcome_of, ended, row_with, rows_from}, proofs.Ending.Onwards, proofs.Fates.{Awaits, IsSettled, ReadFate, awaits-new}}
use Rattle.bank_laws.proofs.{Later.stored_above, Quiet.ended_stored, Serves.{may_at, onwards_at}, Settling.lawful_before, Ticks.last_tick-rises, Walking.rows_after}
use Rattle.tick_laws.proofs.{Actions.reads_of, StoreTimes.store_event, Tallies.stores_by}

-- what gives way to reads lets none of its line writes start while they wait
pub gives : (p : Policy) → is_cancelling p ≡ true → gives_way p ≡ true
gives p is = grind arith

started-writing : (way reads busy ready : Bool) (r : Option Action) (last tick : ℕ) → way ≡ true → reads ≡ true → is_writing (started r (chosen_by way reads (choice busy ready)) last tick) ≡ true → is_writing r ≡ true
started-writing way reads busy ready (Some action) last tick gw some h = h
started-writing true true busy ready None last tick gw some h = absurd (by (nat_lt last tick) h)
  where
    by : (b : Bool) → is_writing (cond b (Some (record { doing = Serving; first = last })) None) ≡ true → ⊥
    by b h = grind arith
started-writing true false busy ready None last tick gw some h = absurd (cc)
started-writing false reads busy ready None last tick gw some h = absurd (cc)

-- a read that doesn't cancel where a line write runs: reads wait, or there were as many cancels as may be
no_cancel : (a b c : Bool) (count : ℕ) → a ≡ true → b ≡ true → (a && (b && (c && nat_lt count most_cancels))) ≡ false → (c ≡ false) ⊎ (4 ≤ count)
no_cancel true true true count p q h = inr (ltb-false count 4 h)
no_cancel true true false count p q h = inl refl
no_cancel _ _ c count p q h = absurd (cc)

started-now : (d : Option Doing) (last tick : ℕ) → tick ≡ last → started None d last tick ≡ None
started-now None last tick is = refl
started-now (Some doing) last tick is = ap (λ b. cond b (Some (record { doing = doing; first = last })) None) (le-ltb last tick (omega (arith, is)))

module _ {n m : ℕ} (shape : BankShape) (pace : Pace) (e : ℕ) where
  -- a line write runs on while reads wait only where it may be cancelled no more
  full_count : (zs : List (TimedEvent n m)) → is_cancelling pace.policy ≡ true → Lawful shape pace e zs → is_writing (running shape pace zs) ≡ true → reads_of shape pace zs ≡ true → 4 ≤ cancels_after zs
  full_count [] cancelling l writes waits_some = absurd (cc)
  full_count (z ∷ zs) cancelling l writes waits_some =
      by z.happens l.0
      (λ w some.
      full_count zs cancelling l.1
      (started-writing (gives_way pace.policy) (reads_of shape pace zs) (busy_after shape zs) (ready_after shape zs) (running shape pace zs) (last_tick zs) z.tick (gives pace.policy cancelling) some w) some)
      writes waits_some
    where
      kept : (b : Bool) (r : Option Action) → is_writing (cond b None r) ≡ true → is_writing r ≡ true
      kept b r h = grind arith

      split : (ws : List Awaited) → (is_empty ws ≡ false) ⊎ (4 ≤ cancels_after zs) → (not (is_empty ws) ≡ true → 4 ≤ cancels_after zs) → 4 ≤ cancels_after zs
      split ws (inl some) go = go (ap not some)
      split ws (inr full) go = full

      by : (h : Happens n) → MayCome shape pace e zs z h → (is_writing (running_at shape pace zs z.tick) ≡ true → reads_of shape pace zs ≡ true → 4 ≤ cancels_after zs)
          → is_writing (left_by shape (core zs) (change_after shape zs) h (running_at shape pace zs z.tick)) ≡ true → not (is_empty (waits shape (core_of h (core zs)))) ≡ true → 4 ≤ cancels_with h z.cancels (cancels_after zs)
      by (Core (Write row line bytes given answer)) may go w some = go w some
      by (Core (Read row line came.Waiting)) may go w some =
          let was = kept (drops_begin shape (core zs) (change_after shape zs) line (running_at shape pace zs z.tick)) (running_at shape pace zs z.tick) w in
          split (waits shape (core zs))
          (no_cancel (is_cancelling pace.policy) (is_writing (running_at shape pace zs z.tick)) (is_empty (waits shape (core zs))) (cancels_after zs) cancelling was (may.on_time.2 (λ f. f))) (go was)
      by (Core (Read row line _)) may go w some = go w some
      by _ may go w some = absurd (cc)

-- the tick of the last store, or 0
abbrev pub stored_at : {n m : ℕ} → List (TimedEvent n m) → ℕ
stored_at [] = 0
stored_at (x ∷ xs) = if stores_by x.happens == 1 then x.tick else stored_at xs

-- one where the last event is a cancel, whose read is still to come
abbrev pub pending_cancel : {n m : ℕ} → List (TimedEvent n m) → ℕ
pending_cancel [] = 0
pending_cancel (x ∷ xs) = cond x.cancels 1 0

count-more : {X : Type 0} (p q : X → Bool) (xs : List X) → ((x : X) → p x ≡ true → q x ≡ true) → count_by p xs ≤ count_by q xs
count-more p q [] more = omega arith
count-more p q (x ∷ xs) more =
    let before : count_by p xs ≤ count_by q xs = count-more p q xs more in
    let left : count_by p (x ∷ xs) ≡ cond (p x) 1 0 + count_by p xs = count-cons p x xs in
    let right : count_by q (x ∷ xs) ≡ cond (q x) 1 0 + count_by q xs = count-cons q x xs in
    let own : cond (p x) 1 0 ≤ cond (q x) 1 0 = by (p x) (q x) (more x) in
    omega (arith, before, left, right, own)
  where
    by : (a b : Bool) → (a ≡ true → b ≡ true) → cond a 1 0 ≤ cond b 1 0
    by a b more = grind arith

module _ {n : ℕ} where
  -- as many came since an earlier tick
  came-earlier : (v u : ℕ) (rows : List (Row n)) → v ≤ u → came_since u rows ≤ came_since v rows
  came-earlier v u rows le =
      count-more _ _ rows (λ q h. by (asks_read q.asks) (nat_le u q.tick) (nat_le v q.tick) (is_answered q.outcome || is_lost q.outcome) (λ up. le-leb v q.tick (let k : u ≤ q.tick = leb-true u q.tick up in omega (arith, k, le))) h)
    where
      by : (a b c d : Bool) → (b ≡ true → c ≡ true) → (a && (b && d)) ≡ true → (a && (c && d)) ≡ true
      by a b c d more h = grind arith

  came-row : (v : ℕ) (q : Row n) (rows : List (Row n)) → came_since v rows ≤ came_since v (q ∷ rows)
  came-row v q rows = let k : came_since v (q ∷ rows) ≡ cond (asks_read q.asks && (nat_le v q.tick && (is_answered q.outcome || is_lost q.outcome))) 1 0 + came_since v rows = count-cons _ q rows in omega (arith, k)

  came-new : (v : ℕ) (q : Row n) (rows : List (Row n)) → (asks_read q.asks && (nat_le v q.tick && (is_answered q.outcome || is_lost q.outcome))) ≡ true → came_since v rows + 1 ≤ came_since v (q ∷ rows)
  came-new v q rows is =
      let k : came_since v (q ∷ rows) ≡ cond (asks_read q.asks && (nat_le v q.tick && (is_answered q.outcome || is_lost q.outcome))) 1 0 + came_since v rows = count-cons _ q rows in
      let one : ◌≡◌ {A = ℕ} (cond (asks_read q.asks && (nat_le v q.tick && (is_answered q.outcome || is_lost q.outcome))) 1 0) 1 = ap (λ b. cond b 1 0) is in
      omega (arith, k, one)

  -- the stores of some rows up to a tick come up to another
  abbrev StoredUpTo : ℕ → ℕ → List (Row n) → Type 0
  StoredUpTo a most [] = Unit {0}
  StoredUpTo a most (q ∷ rows) = ((t p : ℕ) → q.outcome ≡ out.Stored t p → t ≤ a → t ≤ most) × StoredUpTo a most rows

  stored-append : (a most : ℕ) (xs ys : List (Row n)) → StoredUpTo a most xs → StoredUpTo a most ys → StoredUpTo a most (xs ++ ys)
  stored-append a most [] ys f g = g
  stored-append a most (x ∷ xs) ys f g = (f.0, stored-append a most xs ys f.1 g)

  up_to-most : (a most : ℕ) (o : Outcome n) (found : ℕ) → found ≤ most → ((t p : ℕ) → o ≡ out.Stored t p → t ≤ a → t ≤ most) → store_up_to a o found ≤ most
  up_to-most a most (out.Stored t p) found le f = by (nat_le t a) refl
    where
      by : (b : Bool) → nat_le t a ≡ b → cond b (max t found) found ≤ most
      by true is = let k : t ≤ most = f t p refl (leb-true t a is) in omega (arith, k, le)
      by false is = le
  up_to-most a most _ found le f = le

  last-most : (a most : ℕ) (rows : List (Row n)) → StoredUpTo a most rows → last_store a rows ≤ most
  last-most a most [] f = omega arith
  last-most a most (q ∷ rows) f = by (asks_write q.asks) (last-most a most rows f.1)
    where
      by : (b : Bool) → last_store a rows ≤ most → cond b (store_up_to a q.outcome (last_store a rows)) (last_store a rows) ≤ most
      by true ih = up_to-most a most q.outcome (last_store a rows) ih f.0
      by false ih = ih

module _ {n m : ℕ} (shape : BankShape) (all : List (TimedEvent n m)) (a most : ℕ) (f : (row t p : ℕ) → outcome_of shape all row ≡ out.Stored t p → t ≤ a → t ≤ most) where
  own_stored : (h : Happens n) (tick : ℕ) (cancels : Bool) → StoredUpTo a most (row_with shape all h tick cancels)
  own_stored (Core (Write row line bytes given answer)) tick cancels =
      ((λ t p is. f row t p (ended_stored tick (outcome_of shape all row) t p is)), tt)
  own_stored (Core (Read row line answer)) tick cancels = (f row, tt)
  own_stored (Core (Cut tearing)) tick false = ((λ t p is. absurd (cc)), tt)
  own_stored _ tick _ = tt

  from_stored : (zs : List (TimedEvent n m)) → StoredUpTo a most (rows_from shape all zs)
  from_stored [] = tt
  from_stored (z ∷ zs) = stored-append a most (row_with shape all z.happens z.tick z.cancels) (rows_from shape all zs) (own_stored z.happens z.tick z.cancels) (from_stored zs)

  after_stored : (later : List (TimedEvent n m)) → StoredUpTo a most (rows_after shape all later)
  after_stored [] = tt
  after_stored (z ∷ later) = stored-append a most (rows_after shape all later) (row_with shape all z.happens z.tick z.cancels) (after_stored later) (own_stored z.happens z.tick z.cancels)

module _ {n m : ℕ} where
  no_pending : (shape : BankShape) (pace : Pace) (zs : List (TimedEvent n m)) (at : ℕ) (event : BankEvent n) → FollowsCancel shape pace zs at event → (IsRead (last_tick zs) at event → ⊥) → pending_cancel zs ≡ 0
  no_pending shape pace [] at event f other = refl
  no_pending shape pace (y ∷ ys) at event f other = by y.cancels f
    where
      by : (b : Bool) → (b ≡ true → IsRead y.tick at event) → ◌≡◌ {A = ℕ} (cond b 1 0) 0
      by true f = absurd (other (f refl))
      by false f = refl

  few_pending : (zs : List (TimedEvent n m)) → pending_cancel zs ≤ 1
  few_pending [] = omega arith
  few_pending (y ∷ ys) = elim y.cancels as (λ b. cond b 1 0 ≤ 1) [ true ↦ omega arith | false ↦ omega arith ]

module _ {n : ℕ} where
  came-settled : (owed : List ℕ) (o : Outcome n) → IsSettled owed o → (is_answered o || is_lost o) ≡ true
  came-settled owed o h = grind arith

module _ {n m : ℕ} (shape : BankShape) (pace : Pace) (e : ℕ) where
  -- a cancel leaves nothing running
  cancel-drops : (zs : List (TimedEvent n m)) (z : TimedEvent n m) (h : Happens n) → MayCome shape pace e zs z h → z.cancels ≡ true → left_by shape (core zs) (change_after shape zs) h (running_at shape pace zs z.tick) ≡ None
  cancel-drops zs z (Core (Write row line bytes given answer)) may is = absurd (cc (may.on_time.1))
  cancel-drops zs z (Core (Read row line answer)) may is = absurd (cc (may.on_time.1))
  cancel-drops zs z _ may is = refl

  -- a read that waits comes behind no cancel, or finds nothing running behind its own
  cancelled_or : (ys : List (TimedEvent n m)) (tick row line : ℕ) → Lawful shape pace e ys → FollowsCancel shape pace ys tick (Read row line came.Waiting)
      → (pending_cancel ys ≡ 0) ⊎ (running_at shape pace ys tick ≡ None)
  cancelled_or [] tick row line l f = inl refl
  cancelled_or (y ∷ ys) tick row line l f = by y.cancels refl
    where
      by : (b : Bool) → y.cancels ≡ b → (pending_cancel (y ∷ ys) ≡ 0) ⊎ (running_at shape pace (y ∷ ys) tick ≡ None)
      by true is =
          inr (ap (λ r. started r (chosen_after shape pace (y ∷ ys)) y.tick tick) (cancel-drops ys y y.happens l.0 is)
          ∙ started-now (chosen_after shape pace (y ∷ ys)) y.tick tick (f is))
      by false is = inl (ap (λ b. cond b 1 0) is)

  stored_at-up : (zs : List (TimedEvent n m)) → 1 ≤ pace.read → 1 ≤ pace.iter → Lawful shape pace e zs → stored_at zs ≤ last_tick zs
  stored_at-up [] r i l = omega arith
  stored_at-up (z ∷ zs) r i l =
      by (stores_by z.happens == 1)
      (let up : stored_at zs ≤ last_tick zs = stored_at-up zs r i l.1 in
      let rises : last_tick zs ≤ z.tick = last_tick-rises shape pace e zs z r i l in
      omega (arith, up, rises))
    where
      by : (b : Bool) → stored_at zs ≤ z.tick → cond b z.tick (stored_at zs) ≤ z.tick
      by b up = grind arith

  -- what is stored is stored by then
  stored_to : (zs : List (TimedEvent n m)) (row t p : ℕ) → 1 ≤ pace.read → 1 ≤ pace.iter → Lawful shape pace e zs → outcome_of shape zs row ≡ out.Stored t p → t ≤ stored_at zs
  stored_to [] row t p r i l is = absurd (cc)
  stored_to (z ∷ zs) row t p r i l is = by (outcome_with shape zs z.happens z.tick row) refl (λ k. stored_to zs row t p r i l.1 k) is
    where
      rises : (b : Bool) → stored_at zs ≤ cond b z.tick (stored_at zs)
      rises true =
          let up : stored_at zs ≤ last_tick zs = stored_at-up zs r i l.1 in
          let more : last_tick zs ≤ z.tick = last_tick-rises shape pace e zs z r i l in
          omega (arith, up, more)
      rises false = omega arith

      by : (o : Option (Outcome n)) → outcome_with shape zs z.happens z.tick row ≡ o → (outcome_of shape zs row ≡ out.Stored t p → t ≤ stored_at zs) → unwrap_or o (outcome_of shape zs row) ≡ out.Stored t p → t ≤ stored_at (z ∷ zs)
      by (Some s) same go is =
          let event = store_event shape pace e zs z row t p z.happens l.0 (same ∙ ap Some is) in
          let now : t ≡ z.tick = event.at in
          subst (λ b. t ≤ cond b z.tick (stored_at zs)) (sym (eq-eqb (stores_by z.happens) 1 event.one)) (omega (arith, now))
      by None same go is = let k : t ≤ stored_at zs = go is in let more : stored_at zs ≤ stored_at (z ∷ zs) = rises (stores_by z.happens == 1) in omega (arith, k, more)

  -- what runs as a read comes is no line write, where the present one was cancelled less often than it may be, or that is how this read came
  pub idle_few : (x : TimedEvent n m) (ys : List (TimedEvent n m)) → Lawful shape pace e (x ∷ ys) → (row line : ℕ) → is_cancelling pace.policy ≡ true
      → MayCome shape pace e ys x (Core (Read row line came.Waiting)) → (pending_cancel ys ≡ 0 → cancels_after ys < 4) → is_writing (running_at shape pace ys x.tick) ≡ false
  idle_few x ys here row line cancelling may few = false_from_ne_true _ (λ writes. clash writes (cancelled_or ys x.tick row line here.1 may.behind))
    where
      full : (is_empty (waits shape (core ys)) ≡ false) ⊎ (4 ≤ cancels_after ys) → is_writing (running_at shape pace ys x.tick) ≡ true → 4 ≤ cancels_after ys
      full (inr most) writes = most
      full (inl some) writes =
          full_count shape pace e ys cancelling here.1
          (started-writing (gives_way pace.policy) (reads_of shape pace ys) (busy_after shape ys) (ready_after shape ys) (running shape pace ys) (last_tick ys) x.tick (gives pace.policy cancelling) (ap not some) writes)
          (ap not some)

      clash : is_writing (running_at shape pace ys x.tick) ≡ true → (pending_cancel ys ≡ 0) ⊎ (running_at shape pace ys x.tick ≡ None) → ⊥
      clash writes (inr cancelled) = let k : is_writing (running_at shape pace ys x.tick) ≡ false = ap is_writing cancelled in absurd (cc)
      clash writes (inl none) =
          let lt : cancels_after ys < 4 = few none in
          let most : 4 ≤ cancels_after ys =
          full (no_cancel (is_cancelling pace.policy) (is_writing (running_at shape pace ys x.tick)) (is_empty (waits shape (core ys))) (cancels_after ys) cancelling writes (may.on_time.2 (λ f. f))) writes in
          absurd (omega (arith, lt, most))

  module _ (all : List (TimedEvent n m)) (r : 1 ≤ pace.read) (i : 1 ≤ pace.iter) (l : Lawful shape pace e all) (idle : waits shape (core all) ≡ []) where
    settled : (row : ℕ) (owed : List ℕ) → ReadFate shape all row owed → IsSettled owed (outcome_of shape all row)
    settled row owed (inl a) = absurd (subst (λ ws. Awaits ws row owed) idle a)
    settled row owed (inr s) = s

    -- where no cancel stands none is pending
    unpending : (zs : List (TimedEvent n m)) → IsUncancelled shape pace zs → pending_cancel zs ≡ 0
    unpending [] h = refl
    unpending (y ∷ ys) h = ap (λ b. cond b 1 0) h

    -- behind each cancel came its read
    counted : (later zs : List (TimedEvent n m)) → all ≡ later ++ zs → cancels_after zs ≤ came_since (stored_at zs) (rows_from shape all zs) + pending_cancel zs
    counted later [] same = omega arith
    counted later (z ∷ zs) same =
        by z.happens z.cancels (may_at shape pace e all later z zs l same) (onwards_at shape pace e all later z zs l same) (λ is. is) (counted (later ++ z ∷ []) zs (same ∙ sym (append_assoc later (z ∷ []) zs)))
      where
        here : Lawful shape pace e (z ∷ zs)
        here = lawful_before shape pace e later (z ∷ zs) (subst (λ (xs : List (TimedEvent n m)). Lawful shape pace e xs) same l)

        up : stored_at zs ≤ z.tick
        up =
            let low : stored_at zs ≤ last_tick zs = stored_at-up zs r i here.1 in
            let rises : last_tick zs ≤ z.tick = last_tick-rises shape pace e zs z r i here in
            omega (arith, low, rises)

        by : (h : Happens n) (cancels : Bool) → MayCome shape pace e zs z h → Onwards shape all zs z.tick h → (z.cancels ≡ true → cancels ≡ true) → cancels_after zs ≤ came_since (stored_at zs) (rows_from shape all zs) + pending_cancel zs
            → cancels_with h cancels (cancels_after zs) ≤ came_since (cond (stores_by h == 1) z.tick (stored_at zs)) (row_with shape all h z.tick cancels ++ rows_from shape all zs) + cond cancels 1 0
        by (Core (Write row line bytes given answer)) cancels may on whole ih =
            let none = no_pending shape pace zs z.tick (Write row line bytes given answer) may.behind (λ f. f) in
            let more = came-row (stored_at zs) (record { tick = z.tick; asks = Writes line bytes given; outcome = ended z.tick (outcome_of shape all row) }) (rows_from shape all zs) in
            omega (arith, ih, none, more)
        by (Core (Read row line came.Waiting)) cancels may on whole ih =
            let few = few_pending zs in
            let set = settled row (newest (core zs) line) (on.reads row (newest (core zs) line) (inl (awaits-new (waits shape (core zs)) (awaited row line (newest (core zs) line) (layer_of (queue shape (core zs)) line))))) in
            let more =
            came-new (stored_at zs) (record { tick = z.tick; asks = Reads line; outcome = outcome_of shape all row }) (rows_from shape all zs)
            (and_from _ _ (le-leb (stored_at zs) z.tick up) (came-settled (newest (core zs) line) (outcome_of shape all row) set)) in
            omega (arith, ih, few, more)
        by (Core (Read row line answer)) cancels may on whole ih =
            let none = no_pending shape pace zs z.tick (Read row line answer) may.behind (λ f. f) in
            let more = came-row (stored_at zs) (record { tick = z.tick; asks = Reads line; outcome = outcome_of shape all row }) (rows_from shape all zs) in
            omega (arith, ih, none, more)
        by (Core (Serve answer)) cancels may on whole ih = let none = no_pending shape pace zs z.tick (Serve answer) may.behind (λ f. f) in omega (arith, ih, none)
        by (Core (Begin did.More)) cancels may on whole ih = let none = no_pending shape pace zs z.tick (Begin did.More) may.behind (λ f. f) in omega (arith, ih, none)
        by (Core (Iterate did.More)) cancels may on whole ih = let none = no_pending shape pace zs z.tick (Iterate did.More) may.behind (λ f. f) in omega (arith, ih, none)
        by (Core (Cut tearing)) true may on whole ih = let none = no_pending shape pace zs z.tick (Cut tearing) may.behind (λ f. f) in omega (arith, ih, none)
        by (Regs (KeepBegin keep.More)) cancels may on whole ih = let none = unpending zs may.behind in omega (arith, ih, none)
        by (Regs (KeepIterate keep.More)) cancels may on whole ih = let none = unpending zs may.behind in omega (arith, ih, none)
        by (Regs (KeepCut tearing)) true may on whole ih = let none = unpending zs may.behind in omega (arith, ih, none)
        by (Regs (KeepCut tearing)) false may on whole ih = let k : false ≡ true = whole may.on_time.2 in absurd (cc)
        by _ _ may on whole ih = omega arith

    module _ (later : List (TimedEvent n m)) (x : TimedEvent n m) (ys : List (TimedEvent n m)) (same : all ≡ later ++ x ∷ ys) where
      whole : Lawful shape pace e (later ++ x ∷ ys)
      whole = subst (λ (xs : List (TimedEvent n m)). Lawful shape pace e xs) same l

      here : Lawful shape pace e (x ∷ ys)
      here = lawful_before shape pace e later (x ∷ ys) whole

      -- what is stored by an arrival's tick is stored by the last store before it
      stored_early : (row t p : ℕ) → outcome_of shape all row ≡ out.Stored t p → t ≤ x.tick → t ≤ stored_at (x ∷ ys)
      stored_early row t p is le = by (cases_lt (stored_at (x ∷ ys)) t)
        where
          by : (stored_at (x ∷ ys) < t) ⊎ (t ≤ stored_at (x ∷ ys)) → t ≤ stored_at (x ∷ ys)
          by (inr k) = k
          by (inl lt) =
              let up : x.tick < t =
              stored_above shape pace e later (x ∷ ys) row t p r i whole (λ k. let h : t ≤ stored_at (x ∷ ys) = stored_to (x ∷ ys) row t p r i here k in omega (arith, h, lt)) (ap (λ (xs : List (TimedEvent n m)). outcome_of shape xs row) (sym same) ∙ is) in
              omega (arith, up, le)

      last-early : last_store x.tick (rows_from shape all ys ++ rows_after shape all later) ≤ stored_at (x ∷ ys)
      last-early =
          last-most x.tick (stored_at (x ∷ ys)) (rows_from shape all ys ++ rows_after shape all later)
          (stored-append x.tick (stored_at (x ∷ ys)) (rows_from shape all ys) (rows_after shape all later)
          (from_stored shape all x.tick (stored_at (x ∷ ys)) stored_early ys) (after_stored shape all x.tick (stored_at (x ∷ ys)) stored_early later))

      -- so few reads came since that the present line write was cancelled less often than it may be, unless that is how this read came
      few_came : nat_lt (came_since (last_store x.tick (rows_from shape all ys ++ rows_after shape all later)) (rows_from shape all ys)) 4 ≡ true → stored_at (x ∷ ys) ≡ stored_at ys → pending_cancel ys ≡ 0
          → cancels_after ys < 4
      few_came few at none =
          let lt : came_since (last_store x.tick (rows_from shape all ys ++ rows_after shape all later)) (rows_from shape all ys) < 4 = ltb-true _ 4 few in
          let count : cancels_after ys ≤ came_since (stored_at ys) (rows_from shape all ys) + pending_cancel ys = counted (later ++ x ∷ []) ys (same ∙ sym (append_assoc later (x ∷ []) ys)) in
          let since : came_since (stored_at ys) (rows_from shape all ys) ≤ came_since (last_store x.tick (rows_from shape all ys ++ rows_after shape all later)) (rows_from shape all ys) =
          came-earlier (last_store x.tick (rows_from shape all ys ++ rows_after shape all later)) (stored_at ys) (rows_from shape all ys) (let k = last-early in omega (arith, k, at)) in
          omega (arith, lt, count, since, none)

      -- nor is it one where few reads came since the last store
      pub idle_runs : (row line : ℕ) → is_cancelling pace.policy ≡ true → MayCome shape pace e ys x (Core (Read row line came.Waiting)) → stored_at (x ∷ ys) ≡ stored_at ys
          → nat_lt (came_since (last_store x.tick (rows_from shape all ys ++ rows_after shape all later)) (rows_from shape all ys)) 4 ≡ true → is_writing (running_at shape pace ys x.tick) ≡ false
      idle_runs row line cancelling may at few = idle_few x ys here row line cancelling may (λ none. few_came few at none)
