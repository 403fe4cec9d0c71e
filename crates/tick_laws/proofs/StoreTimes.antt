-- A write that is stored is stored in time.
use Rattle.std.proofs.Common.{◌≡◌, ℕ, ◌+◌, ◌*◌, ◌<◌, ◌≤◌, ◌&&◌, ◌⊎◌, inl, inr, Bool, true, false, List, [], ◌∷◌, ◌++◌, Option, Some, None, refl, sym, ap, ◌∙◌, subst, arith, cond, append_assoc}
use Rattle.std.{specs.Prelude.{unwrap_or, count_by, nat_lt}, proofs.Math.Nat.mul-le-mul_left, proofs.lemmas.Bool.{lt-ltb, le-leb, and_from}}
use Rattle.result_rows.specs.declared.Outcome.{Outcome}
use Rattle.result_rows.specs.declared.Outcome.TheVariants as out
use Rattle.masked_bytes.{specs.Entries.has_row, proofs.Counting.count-append}
use Rattle.row_rules.specs.{Answers.{stored_after, stored_by, read_after, read_by}, Ticking.{tries, writings, longest, stores_in, reads_in, cuts_to}, declared.Row.Row}
use Rattle.row_rules.specs.declared.Rules.{Rules}
use Rattle.bank_shape.specs.{Shape.controls_of, declared.BankShape.BankShape, declared.pace.Pace.Pace}
use Rattle.bank_shape.specs.declared.answer.WriteAnswer.TheVariants as wrote
use Rattle.bank_shape.specs.declared.answer.ReadAnswer.TheVariants as came
use Rattle.bank_shape.specs.declared.answer.Step.TheVariants as did
use Rattle.bank_model.specs.{After.{work_after, due_moves}, Answers.IsDone, Changes.{change_after, halted_after, halted_by}, Events.{Write, Read, Serve, Begin, Iterate, Cut}}
use Rattle.bank_model.specs.{History.{queue, waits, due_after, has_exhausted}, Lawful.{Lawful, MayCome}, Running.{cancels_with, cancels_after}}
use Rattle.bank_model.{specs.Timing.{Happens, Core, TimedEvent, core, core_of, last_tick}, proofs.Within.due_moves-few}
use Rattle.right_runs.specs.Banks.{rules_of}
use Rattle.bank_laws.specs.{Outcomes.{on_row, outcome_with, outcome_of, ended, row_with, rows_from}, Ticks.ends_action}
use Rattle.bank_laws.proofs.{Answering.{head-there, first-there, stored-head, served-first}, Counting.{among, hits}, Ending.own_row, Entries.either, Later.last-later}
use Rattle.bank_laws.proofs.{Pending.{writes_in, write_rows, queue-asked}, Settling.{opens, lawful_before}, Ticks.{last_tick-rises, last-below}, Waiting.waits-asked}
use Rattle.bank_laws.proofs.{Walking.rows_after, Wears.exhausted-stores_none}
use Rattle.bank_laws.proofs.Waiting as waiting
use Rattle.tick_laws.proofs.{Actions.since-up, Afterwards.rows_after-append, Cancels.{fine_before, runs_before, tried_few}}
use Rattle.tick_laws.proofs.Causes.{stands, brought, others_few, stood, ends_few, written-runs}
use Rattle.tick_laws.proofs.{Counts.{Sets, tallied_all, writes-counted, reads-counted, rows-counted, cuts-counted, among-later}, Delays.{gain, Delay, delay_at, step, store_tick}}
use Rattle.tick_laws.proofs.{Moves.{moves_few, retires_few}, Settings.{SetAt, row_set, setting, unset_before, unset_stands}}
use Rattle.tick_laws.proofs.{Tallies.{stores_by, moves_by, retires_by, others_by, serves_by, cuts_by, cancelled_by, tally, tally_cuts}, Waits.work_time}

-- the ticks that may have passed to an arrival at a and over some events
abbrev allowed : {n m : ℕ} → ℕ → ℕ → ℕ → List (TimedEvent n m) → ℕ
allowed read work a [] = a
allowed read work a (y ∷ mid) = gain read work y.happens y.cancels + allowed read work a mid

times-add : (a x y : ℕ) → a * (x + y) ≡ a * x + a * y
times-add a x y = grind arith

spread : (a r b s m t c k v ss mm tt cc kk vv : ℕ) → (a * (s + m + t + c + k) + r * (2 * v + c)) + ((a * (ss + mm + tt + cc + kk) + r * (2 * vv + cc)) + b)
    ≡ (a * ((s + ss) + (m + mm) + (t + tt) + (c + cc) + (k + kk)) + r * (2 * (v + vv) + (c + cc))) + b
spread a r b s m t c k v ss mm tt cc kk vv =
    let d : a * ((s + ss) + (m + mm) + (t + tt) + (c + cc) + (k + kk)) ≡ a * (s + m + t + c + k) + a * (ss + mm + tt + cc + kk) =
    ap (λ k. a * k) (omega arith) ∙ times-add a (s + m + t + c + k) (ss + mm + tt + cc + kk) in
    let f : r * (2 * (v + vv) + (c + cc)) ≡ r * (2 * v + c) + r * (2 * vv + cc) = ap (λ k. r * k) (omega arith) ∙ times-add r (2 * v + c) (2 * vv + cc) in
    omega (arith, d, f)

allowed-is : {n m : ℕ} (read work a : ℕ) (mid : List (TimedEvent n m))
    → allowed read work a mid
    ≡ ((read + work) * (tally stores_by mid + tally moves_by mid + tally others_by mid + tally_cuts cuts_by mid + tally_cuts cancelled_by mid) + read * (2 * tally serves_by mid + tally_cuts cuts_by mid)) + a
allowed-is read work a [] = omega arith
allowed-is read work a (y ∷ mid) =
    ap (λ k. gain read work y.happens y.cancels + k) (allowed-is read work a mid)
    ∙ spread (read + work) read a (stores_by y.happens) (moves_by y.happens) (others_by y.happens) (cuts_by y.happens y.cancels) (cancelled_by y.happens y.cancels) (serves_by y.happens)
    (tally stores_by mid) (tally moves_by mid) (tally others_by mid) (tally_cuts cuts_by mid) (tally_cuts cancelled_by mid) (tally serves_by mid)

shuffle : (a q x : ℕ) → a * (q * x) ≡ q * a * x
shuffle a q x = grind arith

bounded : (a r b q top s m t c k v cuts reads : ℕ) → s + m + t ≤ top → c ≤ cuts → v ≤ reads → (s + m + t + c) + k ≤ q * (s + m + t + c)
    → (a * (s + m + t + c + k) + r * (2 * v + c)) + b ≤ b + (q * a * (top + cuts) + r * (2 * reads + cuts))
bounded a r b q top s m t c k v cuts reads ends cs vs ks =
    let more : q * (s + m + t + c) ≤ q * (top + cuts) = mul-le-mul_left {m = s + m + t + c} {n = top + cuts} q (omega (arith, ends, cs)) in
    let d : a * (s + m + t + c + k) ≤ a * (q * (top + cuts)) = mul-le-mul_left {m = s + m + t + c + k} {n = q * (top + cuts)} a (omega (arith, ks, more)) in
    let f : r * (2 * v + c) ≤ r * (2 * reads + cuts) = mul-le-mul_left {m = 2 * v + c} {n = 2 * reads + cuts} r (omega arith) in
    let same : a * (q * (top + cuts)) ≡ q * a * (top + cuts) = shuffle a q (top + cuts) in
    omega (arith, d, f, same)

module _ {n : ℕ} where
  -- stored, or read, at a tick above a and up to u
  abbrev stored_within : ℕ → ℕ → Outcome n → Bool
  stored_within a u o = stored_after a o && stored_by u o

  abbrev read_within : ℕ → ℕ → Outcome n → Bool
  read_within a u o = read_after a o && read_by u o

  ended-within : (a u tick : ℕ) (o : Outcome n) → stored_within a u (ended tick o) ≡ stored_within a u o
  ended-within a u tick o = grind arith

module _ {n m : ℕ} (shape : BankShape) (pace : Pace) (e : ℕ) where
  -- while a write stands the ticks are in time
  delays : (a row : ℕ) (zs : List (TimedEvent n m)) → 1 ≤ pace.read → 1 ≤ pace.iter → has_row (queue shape (core zs)) row ≡ true → Delay shape pace e a zs
      → (mid : List (TimedEvent n m)) → Lawful shape pace e (mid ++ zs) → outcome_of shape (mid ++ zs) row ≡ out.Unset → has_exhausted (core (mid ++ zs)) ≡ false → halted_after (mid ++ zs) ≡ false
      → Delay shape pace e (allowed pace.read (work_time pace e) a mid) (mid ++ zs)
  delays a row zs r i there d [] l un fine runs = d
  delays a row zs r i there d (y ∷ mid) l un fine runs =
      let back = unset_before shape pace e y (mid ++ zs) row l un in
      let before = fine_before y.happens (core (mid ++ zs)) fine in
      let still = runs_before y.happens (halted_after (mid ++ zs)) runs in
      step shape pace e (allowed pace.read (work_time pace e) a mid) (mid ++ zs) y l y.happens l.0 fine runs
      (delay_at shape pace e (allowed pace.read (work_time pace e) a mid) (mid ++ zs) y.tick row (last_tick-rises shape pace e (mid ++ zs) y r i l) (unset_stands shape pace e mid zs row l.1 there back) before still
      (delays a row zs r i there d mid l.1 back before still))

  -- what the event is by which a row is stored
  pub record IsStore (zs : List (TimedEvent n m)) (y : TimedEvent n m) (h : Happens n) (u : ℕ) : Type 0 where
    pub at : u ≡ y.tick
    fine : has_exhausted (core zs) ≡ false
    written : change_after shape zs ≡ None
    halts : (old : Bool) → halted_by h old ≡ old
    no_other : others_by h ≡ 0
    pub one : stores_by h ≡ 1
    moves : moves_by h ≡ 0
    ends : ends_action h ≡ true
    after : has_exhausted (core_of h (core zs)) ≡ false
    resets : (cancels : Bool) (count : ℕ) → cancels_with h cancels count ≡ 0

  module _ (zs : List (TimedEvent n m)) (y : TimedEvent n m) (row u p : ℕ) where
    not_set : (at : ℕ) (t : Outcome n) → ((u p : ℕ) → t ≡ out.Stored u p → ⊥) → on_row at row t ≡ Some (out.Stored u p) → ⊥
    not_set at t other is = other u p (row_set at row t (out.Stored u p) is).1

    stored_now : (at place : ℕ) → on_row {n = n} at row (out.Stored y.tick place) ≡ Some (out.Stored u p) → u ≡ y.tick
    stored_now at place is = by (row_set at row (out.Stored y.tick place) (out.Stored u p) is).1
      where
        by : ◌≡◌ {A = Outcome n} (out.Stored y.tick place) (out.Stored u p) → u ≡ y.tick
        by same = cc

    of_store : (at place : ℕ) → IsDone shape (core zs) (work_after shape (core zs)) (did.Stored at place) → has_exhausted (core zs) ≡ false
    of_store at place d = either (has_exhausted (core zs)) (λ ex. absurd (exhausted-stores_none shape (core zs) at place ex d)) (λ is. is)

    pub store_event : (h : Happens n) → MayCome shape pace e zs y h → outcome_with shape zs h y.tick row ≡ Some (out.Stored u p) → IsStore zs y h u
    store_event (Core (Write at line bytes given (wrote.Merged old))) may is = absurd (not_set old (out.Merged y.tick) (λ u p k. absurd (cc)) is)
    store_event (Core (Write at line bytes given wrote.Full)) may is = absurd (not_set at (out.Full y.tick) (λ u p k. absurd (cc)) is)
    store_event (Core (Write at line bytes given wrote.Exhausted)) may is = absurd (not_set at (out.Worn y.tick) (λ u p k. absurd (cc)) is)
    store_event (Core (Read at line came.Busy)) may is = absurd (not_set at (out.Busy y.tick) (λ u p k. absurd (cc)) is)
    store_event (Core (Read at line (came.Forwarded bytes))) may is = absurd (not_set at (out.Forwarded y.tick bytes) (λ u p k. absurd (cc)) is)
    store_event (Core (Serve answer)) may is = absurd (not_set answer.row (out.Read y.tick answer.place answer.bytes) (λ u p k. absurd (cc)) is)
    store_event (Core (Begin (did.Stored at place))) may is = record {
      at = stored_now at place is;
      fine = of_store at place may.may.1;
      written = may.on_time.2;
      halts = λ old. refl;
      no_other = refl;
      one = refl;
      moves = refl;
      ends = refl;
      after = of_store at place may.may.1;
      resets = λ cancels count. refl;
    }
    store_event (Core (Iterate (did.Stored at place))) may is = record {
      at = stored_now at place is;
      fine = of_store at place may.may.1;
      written = may.on_time.2;
      halts = λ old. refl;
      no_other = refl;
      one = refl;
      moves = refl;
      ends = refl;
      after = of_store at place may.may.1;
      resets = λ cancels count. refl;
    }
    store_event (Core (Cut tearing)) may is = by _ is
      where
        by : (b : Bool) → ◌≡◌ {A = Option (Outcome n)} (cond b (Some (out.Lost y.tick)) None) (Some (out.Stored u p)) → IsStore zs y (Core (Cut tearing)) u
        by b is = grind arith
    store_event _ may is = absurd (cc)

module _ {n m : ℕ} (shape : BankShape) (pace : Pace) (e : ℕ) (all : List (TimedEvent n m)) where
  module _ (a u : ℕ) (zs : List (TimedEvent n m)) (r : 1 ≤ pace.read) (i : 1 ≤ pace.iter) (up : a ≤ last_tick zs) where
    written : (late back : List (TimedEvent n m)) (y : TimedEvent n m) → all ≡ late ++ y ∷ (back ++ zs) → (c : ℕ) → among (writes_in (back ++ zs)) c ≡ true → among (writes_in all) c ≡ true
    written late back y same c there =
        subst (λ (xs : List (TimedEvent n m)). among (writes_in xs) c ≡ true) (append_assoc late (y ∷ []) (back ++ zs) ∙ sym same)
        (among-later {n = n} {m = m} write_rows writes_in (λ x xs. refl) (late ++ y ∷ []) (back ++ zs) c there)

    asked : (late back : List (TimedEvent n m)) (y : TimedEvent n m) → all ≡ late ++ y ∷ (back ++ zs) → (c : ℕ) → among (waiting.reads_in (back ++ zs)) c ≡ true → among (waiting.reads_in all) c ≡ true
    asked late back y same c there =
        subst (λ (xs : List (TimedEvent n m)). among (waiting.reads_in xs) c ≡ true) (append_assoc late (y ∷ []) (back ++ zs) ∙ sym same)
        (among-later {n = n} {m = m} waiting.read_rows waiting.reads_in (λ x xs. refl) (late ++ y ∷ []) (back ++ zs) c there)

    above : (back : List (TimedEvent n m)) (y : TimedEvent n m) → Lawful shape pace e (y ∷ back ++ zs) → ends_action y.happens ≡ true → a < y.tick
    above back y l ends =
        let before : last_tick zs ≤ last_tick (back ++ zs) = last-later shape pace e back zs r i l.1 in
        let lt : last_tick (back ++ zs) < y.tick = last-below shape pace e (back ++ zs) y r i l ends in
        omega (arith, up, before, lt)

    -- each store stores a row, and each serve reads one
    stores_set : (late back : List (TimedEvent n m)) (y : TimedEvent n m) → all ≡ late ++ y ∷ (back ++ zs) → Lawful shape pace e (y ∷ back ++ zs) → y.tick ≤ u
        → Sets shape pace e all stores_by (writes_in all) (stored_within a u) y (back ++ zs)
    stores_set late back y same l le = by y.happens l.0 (above back y l)
      where
        Goal : Happens n → Type 0
        Goal h =
            (stores_by h ≡ 0)
            ⊎ ((stores_by h ≡ 1) × (c : ℕ) × (among (writes_in all) c ≡ true) × (outcome_of shape (back ++ zs) c ≡ out.Unset)
            × (stored_within a u (unwrap_or (outcome_with shape (back ++ zs) h y.tick c) (outcome_of shape (back ++ zs) c)) ≡ true))

        own : (at place : ℕ) → IsDone shape (core (back ++ zs)) (work_after shape (core (back ++ zs))) (did.Stored at place) → a < y.tick
            → (c : ℕ) × (among (writes_in all) c ≡ true) × (outcome_of shape (back ++ zs) c ≡ out.Unset)
            × (stored_within a u (unwrap_or (on_row at c (out.Stored y.tick place)) (outcome_of shape (back ++ zs) c)) ≡ true)
        own at place d lt =
            let there : has_row (queue shape (core (back ++ zs))) at ≡ true = head-there (queue shape (core (back ++ zs))) at (stored-head shape (core (back ++ zs)) at place d) in (
              at,
              written late back y same at (queue-asked shape (back ++ zs) at there),
              (opens shape pace e (back ++ zs) l.1).queued at there,
              ap (stored_within a u) (own_row at (out.Stored y.tick place) (outcome_of shape (back ++ zs) at)) ∙ and_from _ _ (lt-ltb a y.tick lt) (le-leb y.tick u le),
            )

        by : (h : Happens n) → MayCome shape pace e (back ++ zs) y h → (ends_action h ≡ true → a < y.tick) → Goal h
        by (Core (Begin (did.Stored at place))) may lt = inr (let k = own at place may.may.1 (lt refl) in (refl, k.0, k.1, k.2, k.3))
        by (Core (Iterate (did.Stored at place))) may lt = inr (let k = own at place may.may.1 (lt refl) in (refl, k.0, k.1, k.2, k.3))
        by _ may lt = inl refl

    serves_set : (late back : List (TimedEvent n m)) (y : TimedEvent n m) → all ≡ late ++ y ∷ (back ++ zs) → Lawful shape pace e (y ∷ back ++ zs) → y.tick ≤ u
        → Sets shape pace e all serves_by (waiting.reads_in all) (read_within a u) y (back ++ zs)
    serves_set late back y same l le = by y.happens l.0 (above back y l)
      where
        Goal : Happens n → Type 0
        Goal h =
            (serves_by h ≡ 0)
            ⊎ ((serves_by h ≡ 1) × (c : ℕ) × (among (waiting.reads_in all) c ≡ true) × (outcome_of shape (back ++ zs) c ≡ out.Unset)
            × (read_within a u (unwrap_or (outcome_with shape (back ++ zs) h y.tick c) (outcome_of shape (back ++ zs) c)) ≡ true))

        by : (h : Happens n) → MayCome shape pace e (back ++ zs) y h → (ends_action h ≡ true → a < y.tick) → Goal h
        by (Core (Serve answer)) may lt =
            let there = first-there (waits shape (core (back ++ zs))) answer.row (served-first shape (core (back ++ zs)) (waits shape (core (back ++ zs))) answer may.may) in
            inr (
              refl,
              answer.row,
              asked late back y same answer.row (waits-asked shape (back ++ zs) answer.row there),
              (opens shape pace e (back ++ zs) l.1).waiting answer.row there,
              ap (read_within a u) (own_row answer.row (out.Read y.tick answer.place answer.bytes) (outcome_of shape (back ++ zs) answer.row)) ∙ and_from _ _ (lt-ltb a y.tick (lt refl)) (le-leb y.tick u le),
            )
        by _ may lt = inl refl

  -- the rows of the table, around those of an event
  abbrev pub Table : (later : List (TimedEvent n m)) (x : TimedEvent n m) (ys : List (TimedEvent n m)) → Happens n → List (Row n)
  Table later x ys h = rows_from shape all ys ++ (row_with shape all h x.tick x.cancels ++ rows_after shape all later)

  table-counted : (t : Row n → Bool) (later : List (TimedEvent n m)) (x : TimedEvent n m) (ys : List (TimedEvent n m)) → all ≡ later ++ x ∷ ys
      → count_by t (Table later x ys x.happens) ≡ count_by t (rows_from shape all all)
  table-counted t later x ys same =
      let whole : count_by t (rows_from shape all (later ++ x ∷ ys)) ≡ count_by t (rows_after shape all later) + count_by t (row_with shape all x.happens x.tick x.cancels ++ rows_from shape all ys) =
      rows-counted shape all t later (x ∷ ys) in
      let own : count_by t (row_with shape all x.happens x.tick x.cancels ++ rows_from shape all ys) ≡ count_by t (row_with shape all x.happens x.tick x.cancels) + count_by t (rows_from shape all ys) =
      count-append t (row_with shape all x.happens x.tick x.cancels) (rows_from shape all ys) in
      let front : count_by t (Table later x ys x.happens) ≡ count_by t (rows_from shape all ys) + count_by t (row_with shape all x.happens x.tick x.cancels ++ rows_after shape all later) =
      count-append t (rows_from shape all ys) _ in
      let back : count_by t (row_with shape all x.happens x.tick x.cancels ++ rows_after shape all later) ≡ count_by t (row_with shape all x.happens x.tick x.cancels) + count_by t (rows_after shape all later) =
      count-append t (row_with shape all x.happens x.tick x.cancels) (rows_after shape all later) in
      let is : count_by t (rows_from shape all (later ++ x ∷ ys)) ≡ count_by t (rows_from shape all all) = ap (λ (xs : List (TimedEvent n m)). count_by t (rows_from shape all xs)) (sym same) in
      omega (arith, whole, own, front, back, is)

  -- a write that stands is stored in time, if it is
  pub record IsInTime (rules : Rules) (a u : ℕ) (table after : List (Row n)) : Type 0 where
    pub late : a < u
    pub soon : u ≤ a + longest rules (stores_in a u table) (reads_in a u table) (cuts_to u after)

  pub in_end : (later : List (TimedEvent n m)) (x : TimedEvent n m) (ys : List (TimedEvent n m)) (row u p : ℕ) → 1 ≤ pace.read → 1 ≤ pace.iter → 1 ≤ shape.psi → Lawful shape pace e all
      → all ≡ later ++ x ∷ ys → has_row (queue shape (core (x ∷ ys))) row ≡ true → outcome_of shape all row ≡ out.Stored u p
      → IsInTime (rules_of e shape pace) x.tick u (Table later x ys x.happens) (rows_after shape all later)
  in_end later x ys row u p r i some l same there is =
      by (setting shape pace e later (x ∷ ys) row (out.Stored u p) total ((opens shape pace e (x ∷ ys) before).queued row there) (λ k. absurd (cc))
      (ap (λ (xs : List (TimedEvent n m)). outcome_of shape xs row) (sym same) ∙ is))
    where
      total : Lawful shape pace e (later ++ x ∷ ys)
      total = subst (λ (xs : List (TimedEvent n m)). Lawful shape pace e xs) same l

      before : Lawful shape pace e (x ∷ ys)
      before = lawful_before shape pace e later (x ∷ ys) total

      by : SetAt shape later (x ∷ ys) row (out.Stored u p) → IsInTime (rules_of e shape pace) x.tick u (Table later x ys x.happens) (rows_after shape all later)
      by at =
          let split : all ≡ at.late ++ at.event ∷ (at.mid ++ x ∷ ys) = same ∙ ap (λ (xs : List (TimedEvent n m)). xs ++ x ∷ ys) at.split ∙ append_assoc at.late (at.event ∷ at.mid) (x ∷ ys) in
          let whole : Lawful shape pace e (at.late ++ at.event ∷ (at.mid ++ x ∷ ys)) = subst (λ (xs : List (TimedEvent n m)). Lawful shape pace e xs) split l in
          let here : Lawful shape pace e (at.event ∷ (at.mid ++ x ∷ ys)) = lawful_before shape pace e at.late (at.event ∷ (at.mid ++ x ∷ ys)) whole in
          let event = store_event shape pace e (at.mid ++ x ∷ ys) at.event row u p at.event.happens here.0 at.sets in
          let now : u ≡ at.event.tick = event.at in
          let still : halted_after (at.mid ++ x ∷ ys) ≡ false = written-runs shape pace e (at.mid ++ x ∷ ys) here.1 event.written in
          let since : Delay shape pace e x.tick (x ∷ ys) = let up = since-up shape pace e (x ∷ ys) r i before in inl (omega (arith, up)) in
          let delay = delays shape pace e x.tick row (x ∷ ys) r i there since at.mid here.1 at.unset event.fine still in
          let ends : at.event.tick ≤ allowed pace.read (work_time pace e) x.tick (at.event ∷ at.mid) =
          store_tick shape pace e (allowed pace.read (work_time pace e) x.tick at.mid) (at.mid ++ x ∷ ys) at.event here at.event.happens here.0 event.one
          (delay_at shape pace e (allowed pace.read (work_time pace e) x.tick at.mid) (at.mid ++ x ∷ ys) at.event.tick row (last_tick-rises shape pace e (at.mid ++ x ∷ ys) at.event r i here)
          (unset_stands shape pace e at.mid (x ∷ ys) row here.1 there at.unset) event.fine still delay) in
          let sum : allowed pace.read (work_time pace e) x.tick (at.event ∷ at.mid)
          ≡ ((pace.read + work_time pace e)
          * (tally stores_by (at.event ∷ at.mid) + tally moves_by (at.event ∷ at.mid) + tally others_by (at.event ∷ at.mid) + tally_cuts cuts_by (at.event ∷ at.mid) + tally_cuts cancelled_by (at.event ∷ at.mid))
          + pace.read * (2 * tally serves_by (at.event ∷ at.mid) + tally_cuts cuts_by (at.event ∷ at.mid)))
          + x.tick =
          allowed-is pace.read (work_time pace e) x.tick (at.event ∷ at.mid) in
          let stores : tally stores_by (at.event ∷ at.mid) ≤ hits (λ row. stored_within x.tick u (outcome_of shape all row)) (writes_in all) =
          tallied_all shape pace e all stores_by (writes_in all) (stored_within x.tick u) refl (x ∷ ys) u (stores_set x.tick u (x ∷ ys) r i (omega arith)) r i at.late (at.event ∷ at.mid) split l here (omega (arith, now)) in
          let serves : tally serves_by (at.event ∷ at.mid) ≤ hits (λ row. read_within x.tick u (outcome_of shape all row)) (waiting.reads_in all) =
          tallied_all shape pace e all serves_by (waiting.reads_in all) (read_within x.tick u) refl (x ∷ ys) u (serves_set x.tick u (x ∷ ys) r i (omega arith)) r i at.late (at.event ∷ at.mid) split l here (omega (arith, now)) in
          let w : stores_in x.tick u (Table later x ys x.happens) ≡ hits (λ row. stored_within x.tick u (outcome_of shape all row)) (writes_in all) =
          table-counted _ later x ys same ∙ writes-counted shape all (stored_within x.tick u) (ended-within x.tick u) all in
          let v : reads_in x.tick u (Table later x ys x.happens) ≡ hits (λ row. read_within x.tick u (outcome_of shape all row)) (waiting.reads_in all) =
          table-counted _ later x ys same ∙ reads-counted shape all (read_within x.tick u) all in
          let moves : tally moves_by at.mid + due_moves (due_after shape (core (at.mid ++ x ∷ ys))) ≤ tally stores_by at.mid + due_moves (due_after shape (core (x ∷ ys))) = moves_few shape pace e at.mid (x ∷ ys) some here.1 in
          let most : due_moves (due_after shape (core (x ∷ ys))) ≤ 1 = due_moves-few (due_after shape (core (x ∷ ys))) in
          let one : stores_by at.event.happens ≡ 1 = event.one in
          let none_moved : moves_by at.event.happens ≡ 0 = event.moves in
          let retires : tally retires_by (at.event ∷ at.mid) ≤ shape.spares = retires_few shape pace e (at.event ∷ at.mid) (x ∷ ys) here in
          let cuts : tally_cuts cuts_by (at.event ∷ at.mid) ≤ cuts_to u (rows_after shape all (at.event ∷ at.mid)) = cuts-counted shape all pace e u (at.event ∷ at.mid) (x ∷ ys) r i here (omega (arith, now)) in
          let more : cuts_to u (rows_after shape all later) ≡ cuts_to u (rows_after shape all (at.event ∷ at.mid)) + cuts_to u (rows_after shape all at.late) =
          ap (λ (xs : List (TimedEvent n m)). cuts_to u (rows_after shape all xs)) at.split ∙ ap (cuts_to u) (rows_after-append shape all at.late (at.event ∷ at.mid))
          ∙ count-append _ (rows_after shape all (at.event ∷ at.mid)) (rows_after shape all at.late) in
          let tried = tried_few shape pace e (at.event ∷ at.mid) (x ∷ ys) here event.after (event.halts (halted_after (at.mid ++ x ∷ ys)) ∙ still) (event.resets at.event.cancels (cancels_after (at.mid ++ x ∷ ys))) in
          let no_other : others_by at.event.happens ≡ 0 = event.no_other in
          let others : tally others_by at.mid + stands (change_after shape (at.mid ++ x ∷ ys)) ≤ tally retires_by at.mid + stands (change_after shape (x ∷ ys)) + brought shape.home * (tally stores_by at.mid + tally moves_by at.mid + tally retires_by at.mid) =
          others_few shape pace e at.mid (x ∷ ys) here.1 event.fine in
          let ended = ends_few shape (change_after shape (x ∷ ys)) (tally stores_by at.mid) (tally moves_by at.mid) (tally retires_by at.mid) (tally others_by at.mid) (stores_in x.tick u (Table later x ys x.happens)) shape.spares
          (stood shape pace e (x ∷ ys) before) (omega (arith, stores, w, one)) (omega (arith, moves, most)) (omega (arith, retires)) (omega (arith, others)) in
          let all_in = bounded (pace.read + work_time pace e) pace.read x.tick (tries pace.policy) (writings (nat_lt 0 (controls_of shape)) * (2 * stores_in x.tick u (Table later x ys x.happens) + shape.spares))
          (tally stores_by (at.event ∷ at.mid)) (tally moves_by (at.event ∷ at.mid)) (tally others_by (at.event ∷ at.mid)) (tally_cuts cuts_by (at.event ∷ at.mid)) (tally_cuts cancelled_by (at.event ∷ at.mid)) (tally serves_by (at.event ∷ at.mid))
          (cuts_to u (rows_after shape all later)) (reads_in x.tick u (Table later x ys x.happens))
          (omega (arith, ended, one, none_moved, no_other)) (omega (arith, cuts, more)) (omega (arith, serves, v)) tried in
          record {
            late = let lt = above x.tick u (x ∷ ys) r i (omega arith) at.mid at.event here event.ends in omega (arith, lt, now);
            soon = omega (arith, now, ends, sum, all_in);
          }
