-- A read that finds few cancels of the present line write waits for reads alone.
use Rattle.std.proofs.Common.{◌≡◌, ℕ, ◌+◌, ◌*◌, ◌<◌, ◌≤◌, inl, inr, Bool, true, false, List, [], ◌∷◌, ◌++◌, Option, None, length, refl, sym, ap, ◌∙◌, subst, arith, cond}
use Rattle.std.{specs.Prelude.nat_le, proofs.lemmas.Bool.{le-leb, lt-ltb, and_from}}
use Rattle.result_rows.specs.declared.Outcome.{Outcome}
use Rattle.result_rows.specs.declared.Outcome.TheVariants as out
use Rattle.row_rules.specs.{Ticking.first_cut_at, declared.Row.Row}
use Rattle.masked_bytes.specs.Entries.{layer_of}
use Rattle.bank_shape.specs.{Pausing.gives_way, declared.BankShape.BankShape, declared.clock.Action.Action, declared.pace.Pace.Pace}
use Rattle.bank_shape.specs.declared.answer.ReadAnswer.TheVariants as came
use Rattle.bank_model.specs.{Changes.change_after, Events.{Read, newest}, History.{awaited, queue, waits}, Lawful.{Lawful, MayCome}}
use Rattle.bank_model.specs.{Running.{busy_after, made_after, drops_begin, left_by, running_at, cancels_after}, Timing.{Happens, Core, TimedEvent, is_writing, core, core_of}}
use Rattle.bank_laws.{specs.Outcomes.{outcome_of, row_with}, specs.Standing.has_wait, proofs.Fates.{Awaits, IsSettled, ReadFate, read_fate, awaits-has, awaits-new}}
use Rattle.bank_laws.proofs.{Settling.{opens, lawful_before}, Standing.stand_apart, Waiting.settled_all, Walking.rows_after}
use Rattle.tick_laws.specs.TickLaws.{FewCancelsLaw, FewCancelsNowLaw, FindsFewCancels, IsNow, by_reads, count_found, ends_by, ends_or_waits, rows_behind}
use Rattle.tick_laws.proofs.{Actions.{since, since-up, running_at-fits}, Cancelling.{pending_cancel, idle_few, gives}, ReadTimes.{InTime, drop_or, in_end, owes-idle, turns}}
use Rattle.tick_laws.proofs.{Turns.{turn, turn-some, turn-new, not_early-new, owes}, Waits.{Turn, TurnBy, turn_at, work_time, few_times, at_cut}}

module _ {n : ℕ} where
  -- a read that has ended in time has ended by then
  ends-by : (read a most : ℕ) (after : List (Row n)) (owed : List ℕ) (o : Outcome n) → IsSettled owed o → InTime read a most after o → ends_by read a most o after ≡ true
  ends-by read a most after owed (out.Read u place bytes) s h =
      and_from (nat_le (a + read) u) _ (le-leb (a + read) u h.0)
      (and_from (nat_le u most) _ (le-leb u most h.1) h.2)
  ends-by read a most after owed (out.Lost u) s h = and_from (first_cut_at u after) _ h.0 (lt-ltb u most h.1)
  ends-by read a most after owed _ s h = absurd s

  -- so it has at any tick
  ended-now : (t read a most : ℕ) (after : List (Row n)) (owed : List ℕ) (o : Outcome n) → IsSettled owed o → ends_by read a most o after ≡ true → ends_or_waits t read a most o after ≡ true
  ended-now t read a most after owed o s h = grind arith

behind-is : {n m : ℕ} (shape : BankShape) (all later : List (TimedEvent n m)) → rows_behind shape all later ≡ rows_after shape all later
behind-is shape all [] = refl
behind-is shape all (x ∷ later) = ap (λ rows. rows ++ row_with shape all x.happens x.tick x.cancels) (behind-is shape all later)

-- fewer cancels than may be were found, so there were fewer, unless the last is this read's own
found-few : {n m : ℕ} (ys : List (TimedEvent n m)) → count_found ys < 4 → pending_cancel ys ≡ 0 → cancels_after ys < 4
found-few [] few none = few
found-few (y ∷ ys) few none = by y.cancels few none
  where
    by : (b : Bool) → cond b (cancels_after ys) (cancels_after (y ∷ ys)) < 4 → ◌≡◌ {A = ℕ} (cond b 1 0) 0 → cancels_after (y ∷ ys) < 4
    by true few none = absurd (omega (arith, none))
    by false few none = few

sum_few : (s o t x k p : ℕ) → s ≤ x → o ≡ 0 → t ≡ k → s + o + t ≤ x + k + p
sum_few s o t x k p top none is = omega arith

module _ {n m : ℕ} (shape : BankShape) (pace : Pace) (e : ℕ) (x : TimedEvent n m) (ys : List (TimedEvent n m)) (l : Lawful shape pace e (x ∷ ys)) (r : 1 ≤ pace.read) (i : 1 ≤ pace.iter) where
  -- a read that finds few cancels waits, and has its turn by the reads before it and its own
  record HasFewTurn (row : ℕ) : Type 0 where
    pub owed : List ℕ
    pub waits_on : Awaits (waits shape (core (x ∷ ys))) row owed
    pub has : Turn shape pace e x.tick (by_reads shape pace x ys) row (x ∷ ys)

  few_turn : (row : ℕ) → FindsFewCancels pace row x ys → HasFewTurn row
  few_turn row finds = by x.happens finds.waits.1 l.0 (since-up shape pace e (x ∷ ys) r i l) (λ owed waits_on has. record { owed = owed; waits_on = waits_on; has = has })
    where
      runs : Option Action
      runs = running_at shape pace ys x.tick

      ways : gives_way pace.policy ≡ true
      ways = gives pace.policy finds.cancelling

      row_of : Happens n → ℕ
      row_of (Core (Read at line answer)) = at
      row_of h = 0

      by : (h : Happens n) → h ≡ Core (Read row finds.waits.0 came.Waiting) → MayCome shape pace e ys x h
          → since (left_by shape (core ys) (change_after shape ys) h runs) x.tick ≤ x.tick
          → ((owed : List ℕ) → Awaits (waits shape (core_of h (core ys))) row owed → TurnBy shape pace e x.tick (by_reads shape pace x ys) row ys x l h (left_by shape (core ys) (change_after shape ys) h runs) → HasFewTurn row)
          → HasFewTurn row
      by (Core (Read at on came.Waiting)) is may top go =
          let v = awaited at on (newest (core ys) on) (layer_of (queue shape (core ys)) on) in
          let drops = drops_begin shape (core ys) (change_after shape ys) on runs in
          let new : has_wait (waits shape (core ys)) at ≡ false = (stand_apart shape (core ys) at may.asked).waiting_below at (omega arith) in
          let free : is_writing runs ≡ false = idle_few shape pace e x ys l at on finds.cancelling may (found-few ys finds.few) in
          let none : owes pace.read pace.iter (work_time pace e) (gives_way pace.policy) (busy_after shape ys) (cond drops None runs) ≡ 0 =
          ap (λ w. owes pace.read pace.iter (work_time pace e) w (busy_after shape ys) (cond drops None runs)) ways ∙ owes-idle pace.read pace.iter (work_time pace e) (busy_after shape ys) drops runs free in
          let same : at ≡ row = ap row_of is in
          go (newest (core ys) on)
          (subst (λ k. Awaits (waits shape (core_of (Core (Read at on came.Waiting)) (core ys))) k (newest (core ys) on)) same (awaits-new (waits shape (core ys)) v))
          (subst (λ k. TurnBy shape pace e x.tick (by_reads shape pace x ys) k ys x l (Core (Read at on came.Waiting)) (left_by shape (core ys) (change_after shape ys) (Core (Read at on came.Waiting)) runs)) same
          (record {
            low =
                not_early-new x.tick at (gives_way pace.policy) (busy_after shape ys)
                (waits shape (core ys)) v (cond drops None runs) new
                (drop_or shape pace ys drops runs (running_at-fits shape pace e ys x.tick));
            high = sum_few _ _ _ x.tick ((length (waits shape (core ys)) + 1) * pace.read) _ top none (turn-new pace.read at (waits shape (core ys)) v new refl);
          }))
      by _ is may top go = absurd (cc)

module _ {n m : ℕ} (shape : BankShape) (pace : Pace) (e : ℕ) (later : List (TimedEvent n m)) (x : TimedEvent n m) (ys : List (TimedEvent n m)) (l : Lawful shape pace e (later ++ x ∷ ys)) (r : 1 ≤ pace.read) (i : 1 ≤ pace.iter) (row : ℕ) (finds : FindsFewCancels pace row x ys) where
  abbrev all : List (TimedEvent n m)
  all = later ++ x ∷ ys

  few : HasFewTurn shape pace e x ys (lawful_before shape pace e later (x ∷ ys) l) r i row
  few = few_turn shape pace e x ys (lawful_before shape pace e later (x ∷ ys) l) r i row finds

  -- it waits still, or it has ended
  fate : ReadFate shape all row few.owed
  fate = read_fate shape pace e later (x ∷ ys) row few.owed l (inl few.waits_on)

  has-ended : IsSettled few.owed (outcome_of shape all row) → ends_by pace.read x.tick (by_reads shape pace x ys) (outcome_of shape all row) (rows_behind shape all later) ≡ true
  has-ended settled =
      ap (λ rows. ends_by pace.read x.tick (by_reads shape pace x ys) (outcome_of shape all row) rows) (behind-is shape all later)
      ∙ ends-by pace.read x.tick (by_reads shape pace x ys) (rows_after shape all later) few.owed (outcome_of shape all row) settled
      (in_end shape pace e all x.tick (by_reads shape pace x ys) row few.owed later (x ∷ ys) r i l few.waits_on (omega arith) few.has (λ unset. subst (λ (o : Outcome n). IsSettled few.owed o) unset settled))

  -- where it waits still it has time left
  has-time : (t : ℕ) → IsNow shape pace all t → Awaits (waits shape (core all)) row few.owed
      → ends_or_waits t pace.read x.tick (by_reads shape pace x ys) (outcome_of shape all row) (rows_behind shape all later) ≡ true
  has-time t at waits_on =
      let unset : outcome_of shape all row ≡ out.Unset = (opens shape pace e all l).waiting row (awaits-has (waits shape (core all)) row few.owed waits_on) in
      let there : has_wait (waits shape (core all)) row ≡ true = awaits-has (waits shape (core all)) row few.owed waits_on in
      let past = turns shape pace e all x.tick (by_reads shape pace x ys) row few.owed (x ∷ ys) r i few.waits_on (omega arith) few.has later l unset in
      let now = turn_at shape pace e x.tick (by_reads shape pace x ys) row all t at.now past.1 there past.0 in
      let lt : t < by_reads shape pace x ys =
      at_cut pace.read pace.iter (work_time pace e) (by_reads shape pace x ys) (gives_way pace.policy) (busy_after shape all) _ (made_after shape all) t (turn pace.read row (waits shape (core all))) (running_at shape pace all t) r
      (turn-some pace.read row (waits shape (core all)) there) (λ busy. few_times shape pace e all l busy) (running_at-fits shape pace e all t) at.to_come now.high in
      subst (λ (o : Outcome n). ends_or_waits t pace.read x.tick (by_reads shape pace x ys) o (rows_behind shape all later) ≡ true) (sym unset) (lt-ltb t (by_reads shape pace x ys) lt)

  at-rest : waits shape (core all) ≡ [] → ends_by pace.read x.tick (by_reads shape pace x ys) (outcome_of shape all row) (rows_behind shape all later) ≡ true
  at-rest none = has-ended (settled_all shape pace e all row few.owed none fate)

  at-tick : (t : ℕ) → IsNow shape pace all t → ends_or_waits t pace.read x.tick (by_reads shape pace x ys) (outcome_of shape all row) (rows_behind shape all later) ≡ true
  at-tick t at = by fate
    where
      by : ReadFate shape all row few.owed → ends_or_waits t pace.read x.tick (by_reads shape pace x ys) (outcome_of shape all row) (rows_behind shape all later) ≡ true
      by (inl waits_on) = has-time t at waits_on
      by (inr settled) = ended-now t pace.read x.tick (by_reads shape pace x ys) (rows_behind shape all later) few.owed (outcome_of shape all row) settled (has-ended settled)

pub few_cancels_law : FewCancelsLaw
few_cancels_law n m e shape pace xs sized l still row later ys x same finds =
    subst (λ (all : List (TimedEvent n m)). Lawful shape pace e all → waits shape (core all) ≡ []
    → ends_by pace.read x.tick (by_reads shape pace x ys) (outcome_of shape all row) (rows_behind shape all later) ≡ true) (sym same)
    (λ l none. at-rest shape pace e later x ys l sized.read sized.iter row finds none) l still.unawaited

pub few_cancels_now_law : FewCancelsNowLaw
few_cancels_now_law n m e t shape pace xs sized l now row later ys x same finds =
    subst (λ (all : List (TimedEvent n m)). Lawful shape pace e all → IsNow shape pace all t
    → ends_or_waits t pace.read x.tick (by_reads shape pace x ys) (outcome_of shape all row) (rows_behind shape all later) ≡ true) (sym same)
    (λ l now. at-tick shape pace e later x ys l sized.read sized.iter row finds t now) l now
