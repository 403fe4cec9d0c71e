-- What a bank holds at a row, and at any tick between two of its events.
use Rattle.std.proofs.Common.{◌≡◌, ℕ, ◌<◌, ◌≤◌, ◌⊎◌, inl, inr, Bool, true, false, List, [], ◌∷◌, ◌++◌, Option, None, length, refl, sym, ap, ◌∙◌, subst, arith, cond, append_assoc}
use Rattle.std.{specs.Prelude.{nat_le, filter, All}, proofs.Math.Nat.eq-or-lt_of_le, proofs.lemmas.Bool.{eq-eqb, le-leb, and_from}}
use Rattle.std.proofs.lemmas.List.Elements.{All-head, All-tail}
use Rattle.result_rows.specs.declared.Outcome.TheVariants as out
use Rattle.masked_bytes.{specs.Entries.{has_row, candidate}, specs.declared.entry.Entry.Entry, proofs.Truth.implied}
use Rattle.row_rules.specs.{Answers.is_full, Queueing.{pending, waiting, has_room, pairs_few, is_refused}, Rows.write_of, declared.Row.Row}
use Rattle.bank_shape.specs.{declared.BankShape.BankShape, declared.pace.Pace.Pace}
use Rattle.bank_shape.specs.declared.answer.WriteAnswer.TheVariants as wrote
use Rattle.bank_model.specs.{Answers.{head_busy_after, accept_answer, write_answer}, Events.{BankEvent, Write, Read, Cut}, History.{queue, waits, has_exhausted}}
use Rattle.bank_model.specs.{Lawful.{Lawful, MayCome}, Sensing.most_steps, Timing.{Happens, Core, TimedEvent, core, last_tick}, Told.tick_of_row}
use Rattle.right_runs.specs.Banks.{rules_of}
use Rattle.bank_laws.{specs.Outcomes.{outcome_of, ended, row_with, rows_from}, specs.Room.RoomLaw, specs.Ticks.ends_action, proofs.Answering.IsHead}
use Rattle.bank_laws.proofs.{Ending.{Onwards, write_outcome}, Holding.bound_law, Later.{EndsAbove, ends_later, ends_at_row, ends_push}, Lines.{Stands, Covered, stands-line}}
use Rattle.bank_laws.proofs.{Pairs.{keeps_pairs, no_candidate-head, no_candidate-rest}, Pending.{full_outcome, covered_on, queue_length}, Serves.{may_at, onwards_at}}
use Rattle.bank_laws.proofs.{Settling.{opens, lawful_before}, Ticks.last_tick-rises, Waiting.{may_all, awaiting_length}, Walking.{Passes, walk, rows_after}}
use Rattle.queue_laws.{specs.QueueLaws.{finds_pairs_few, is_refusal_fair, PairsFewLaw, RefusalLaw}, proofs.Few.{StandsWell, pairs_are_few, refusal, HeadAlone}}
use Rattle.queue_laws.proofs.{First.{First, first, first_now}, Order.{HeadBefore, in_order}, Stood.{stood_each, stood_fall, pending_is}, Written.{standing, written}}

-- a write that is refused as full merges into nothing
module _ {n : ℕ} (shape : BankShape) where
  full-none : (h : List (BankEvent n)) (line : ℕ) → wrote.Full ≡ write_answer shape h line → candidate (head_busy_after shape h) (queue shape h) line ≡ None
  full-none h line a = by (has_exhausted h) (candidate (head_busy_after shape h) (queue shape h) line) a
    where
      by : (b : Bool) (c : Option ℕ) → wrote.Full ≡ cond b wrote.Exhausted (accept_answer shape h c) → c ≡ None
      by b c a = grind arith

module _ {n m : ℕ} (shape : BankShape) (pace : Pace) (e : ℕ) where
  -- What stands

  pub stands_well : (all later now : List (TimedEvent n m)) → 1 ≤ pace.read → 1 ≤ pace.iter → Lawful shape pace e all → all ≡ later ++ now → StandsWell shape all now
  stands_well all later now r i l same =
      let whole : Lawful shape pace e (later ++ now) = subst (λ (xs : List (TimedEvent n m)). Lawful shape pace e xs) same l in
      let here : Lawful shape pace e now = lawful_before shape pace e later now whole in
      record {
        open_now = opens shape pace e now here;
        open_all = opens shape pace e all l;
        paired = (keeps_pairs shape (most_steps e) (core now) (may_all shape pace e now here)).paired;
        leads = (in_order shape pace e now r i here).leads;
        first = λ row head. subst (λ (xs : List (TimedEvent n m)). First shape now xs row) (sym same) (first shape pace e now later now row r i whole (first_now shape pace e now row head));
        covered = λ row line c.
            subst (λ (xs : List (TimedEvent n m)). Covered (queue shape (core xs)) row line ⊎ ((u : ℕ) × (p : ℕ) × (outcome_of shape xs row ≡ out.Stored u p))) (sym same) (covered_on shape pace e later now row line whole c);
      }

  module _ (all later now : List (TimedEvent n m)) (t : ℕ) (r : 1 ≤ pace.read) (i : 1 ≤ pace.iter) (l : Lawful shape pace e all) (same : all ≡ later ++ now) (up : last_tick now ≤ t) (ends : EndsAbove t later) where
    here : Lawful shape pace e now
    here = lawful_before shape pace e later now (subst (λ (xs : List (TimedEvent n m)). Lawful shape pace e xs) same l)

    pub pairs_at : pairs_few (pending t [] (rows_from shape all now)) (pending t [] (rows_from shape all now)) ≡ true
    pairs_at =
        let each = stood_each shape pace e all later now t r i l same up ends in
        let fall = stood_fall shape pace e all later now t r i l same up ends in
        subst (λ (rows : List (Row n)). pairs_few rows rows ≡ true) (sym (pending_is shape pace e all later now t r i l same up ends))
        (pairs_are_few shape all now (stands_well all later now r i l same) (standing (λ row. has_row (queue shape (core now)) row) (written shape all now)) (standing (λ row. has_row (queue shape (core now)) row) (written shape all now)) fall.0 each each fall.1)

    -- at such a tick the bank holds no more than it may
    pub room_between : waits shape (core all) ≡ [] → has_room (rules_of e shape pace) t (rows_from shape all now) ≡ true
    room_between none =
        let bound = bound_law n (most_steps e) shape (core now) (may_all shape pace e now here) in
        let stand : length (pending t [] (rows_from shape all now)) ≡ length (queue shape (core now)) =
        queue_length shape pace e all later now t r i l same up ends in
        let wait : length (waiting t [] (rows_from shape all now)) ≡ length (waits shape (core now)) = awaiting_length shape pace e all later now t r i l same up ends none in
        and_from (nat_le (length (pending t [] (rows_from shape all now))) shape.writes) _ (le-leb (length (pending t [] (rows_from shape all now))) shape.writes (omega (arith, stand, bound.writes)))
        (and_from (nat_le (length (waiting t [] (rows_from shape all now))) shape.reads) _ (le-leb (length (waiting t [] (rows_from shape all now))) shape.reads (omega (arith, wait, bound.reads))) pairs_at)

  -- At a row

  pub behind : (all later : List (TimedEvent n m)) (x : TimedEvent n m) (ys : List (TimedEvent n m)) → all ≡ later ++ x ∷ ys → all ≡ (later ++ x ∷ []) ++ ys
  behind all later x ys same = same ∙ sym (append_assoc later (x ∷ []) ys)

  module _ (all later : List (TimedEvent n m)) (x : TimedEvent n m) (ys : List (TimedEvent n m)) (r : 1 ≤ pace.read) (i : 1 ≤ pace.iter) (l : Lawful shape pace e all) (same : all ≡ later ++ x ∷ ys) where
    over : Lawful shape pace e (later ++ x ∷ ys)
    over = subst (λ (xs : List (TimedEvent n m)). Lawful shape pace e xs) same l

    up_to_row : last_tick ys ≤ x.tick
    up_to_row = last_tick-rises shape pace e ys x r i (lawful_before shape pace e later (x ∷ ys) over)

    pairs_at_row : ends_action x.happens ≡ false → pairs_few (pending x.tick [] (rows_from shape all ys)) (pending x.tick [] (rows_from shape all ys)) ≡ true
    pairs_at_row arrives =
        pairs_at all (later ++ x ∷ []) ys x.tick r i l (behind all later x ys same) up_to_row
        (ends_at_row shape pace e later ys x r i over arrives)

    pairs_pass : Passes finds_pairs_few (rows_from shape all ys) (row_with shape all x.happens x.tick x.cancels) (rows_after shape all later)
    pairs_pass = by x.happens x.cancels pairs_at_row
      where
        by : (h : Happens n) (cancels : Bool) → (ends_action h ≡ false → pairs_few (pending x.tick [] (rows_from shape all ys)) (pending x.tick [] (rows_from shape all ys)) ≡ true)
            → Passes finds_pairs_few (rows_from shape all ys) (row_with shape all h x.tick cancels) (rows_after shape all later)
        by h cancels few = grind arith

  -- A refused write

  -- where a write merges into nothing, an entry of its line is the busy head
  head_alone : (all ys : List (TimedEvent n m)) (line tick : ℕ) (k : StandsWell shape all ys) → 1 ≤ pace.read → 1 ≤ pace.iter → Lawful shape pace e ys → last_tick ys ≤ tick → candidate (head_busy_after shape (core ys)) (queue shape (core ys)) line ≡ None
      → HeadAlone shape all ys k line tick
  head_alone all ys line tick k r i l le none row s = by (queue shape (core ys)) refl none s
    where
      by : (es : List (Entry n)) → es ≡ queue shape (core ys) → candidate (head_busy_after shape (core ys)) es line ≡ None → Stands es row line → IsHead es row × (tick_of_row row ys < tick)
      by [] is none s = absurd s
      by (f ∷ es) is none (inl s) =
          let busy : head_busy_after shape (core ys) ≡ true = no_candidate-head (head_busy_after shape (core ys)) f es line none (eq-eqb line f.line (sym s.1)) in
          let before : tick_of_row f.row ys < last_tick ys = subst (λ (es : List (Entry n)). HeadBefore (λ row. tick_of_row row ys) (last_tick ys) es) (sym is) ((in_order shape pace e ys r i l).busy busy) in
          (sym s.0, subst (λ row. tick_of_row row ys < tick) s.0 (omega (arith, before, le)))
      by (f ∷ es) is none (inr s) = absurd (cc (no_candidate-rest es line _ none, stands-line es row line s))

  refusal_pass : (all later : List (TimedEvent n m)) (x : TimedEvent n m) (ys : List (TimedEvent n m)) → 1 ≤ pace.read → 1 ≤ pace.iter → Lawful shape pace e all → all ≡ later ++ x ∷ ys
      → Passes is_refusal_fair (rows_from shape all ys) (row_with shape all x.happens x.tick x.cancels) (rows_after shape all later)
  refusal_pass all later x ys r i l same =
      by x.happens x.cancels (may_at shape pace e all later x ys l same) (onwards_at shape pace e all later x ys l same) refused
    where
      over : Lawful shape pace e (later ++ x ∷ ys)
      over = subst (λ (xs : List (TimedEvent n m)). Lawful shape pace e xs) same l

      there : Lawful shape pace e (x ∷ ys)
      there = lawful_before shape pace e later (x ∷ ys) over

      refused : ends_action x.happens ≡ false → (line : ℕ) → candidate (head_busy_after shape (core ys)) (queue shape (core ys)) line ≡ None
          → is_refused x.tick (pending x.tick [] (rows_from shape all ys)) (filter (write_of line) (pending x.tick [] (rows_from shape all ys))) ≡ true
      refused arrives line none =
          let up : last_tick ys ≤ x.tick = last_tick-rises shape pace e ys x r i there in
          let ends = ends_at_row shape pace e later ys x r i over arrives in
          let k = stands_well all (later ++ x ∷ []) ys r i l (behind all later x ys same) in
          let each = stood_each shape pace e all (later ++ x ∷ []) ys x.tick r i l (behind all later x ys same) up ends in
          let fall = stood_fall shape pace e all (later ++ x ∷ []) ys x.tick r i l (behind all later x ys same) up ends in
          subst (λ (rows : List (Row n)). is_refused x.tick rows (filter (write_of line) rows) ≡ true) (sym (pending_is shape pace e all (later ++ x ∷ []) ys x.tick r i l (behind all later x ys same) up ends))
          (refusal shape all ys k line x.tick (standing (λ row. has_row (queue shape (core ys)) row) (written shape all ys)) (standing (λ row. has_row (queue shape (core ys)) row) (written shape all ys)) fall.0
          (head_alone all ys line x.tick k r i there.1 up none) each each fall.1)

      by : (h : Happens n) (cancels : Bool) → MayCome shape pace e ys x h → Onwards shape all ys x.tick h
          → (ends_action h ≡ false → (line : ℕ) → candidate (head_busy_after shape (core ys)) (queue shape (core ys)) line ≡ None
          → is_refused x.tick (pending x.tick [] (rows_from shape all ys)) (filter (write_of line) (pending x.tick [] (rows_from shape all ys))) ≡ true)
          → Passes is_refusal_fair (rows_from shape all ys) (row_with shape all h x.tick cancels) (rows_after shape all later)
      by (Core (Write row line bytes given answer)) cancels may on refuse =
          implied (is_full (ended x.tick (outcome_of shape all row))) _ (λ full.
          let was : answer ≡ wrote.Full = full_outcome x.tick answer (ended x.tick (outcome_of shape all row)) (write_outcome shape pace e all ys x row line bytes given answer (opens shape pace e all l) may on) full in
          refuse refl line (full-none shape (core ys) line (sym was ∙ may.may.2)))
      by (Core (Read row line answer)) cancels may on refuse = refl
      by (Core (Cut tearing)) false may on refuse = refl
      by _ _ may on refuse = tt

pub pairs_few_law : PairsFewLaw
pairs_few_law n m e shape pace xs sized l idle = walk shape xs finds_pairs_few [] xs refl (λ later x ys same. pairs_pass shape pace e xs later x ys sized.read sized.iter l same)

pub refusal_law : RefusalLaw
refusal_law n m e shape pace xs sized l idle = walk shape xs is_refusal_fair [] xs refl (λ later x ys same. refusal_pass shape pace e xs later x ys sized.read sized.iter l same)

-- Between two events

last_of : {A : Type 0} (xs : List A) → (xs ≡ []) ⊎ ((front : List A) × (x : A) × (xs ≡ front ++ x ∷ []))
last_of [] = inl refl
last_of {A} (x ∷ xs) = by (last_of xs)
  where
    by : (xs ≡ []) ⊎ ((front : List A) × (y : A) × (xs ≡ front ++ y ∷ [])) → (x ∷ xs ≡ []) ⊎ ((front : List A) × (y : A) × (x ∷ xs ≡ front ++ y ∷ []))
    by (inl none) = inr ([], x, ap (λ ys. x ∷ ys) none)
    by (inr some) = inr (x ∷ some.0, some.1, ap (λ ys. x ∷ ys) some.2)

all_last : {A : Type 0} (P : A → Type 0) (front : List A) (x : A) → All P (front ++ x ∷ []) → P x
all_last P [] x h = All-head P x [] h
all_last P (y ∷ front) x h = all_last P front x (All-tail P y (front ++ x ∷ []) h)

no_rows : {n m : ℕ} (shape : BankShape) (all : List (TimedEvent n m)) (h : Happens n) (tick : ℕ) (cancels : Bool) → ends_action h ≡ true → row_with shape all h tick cancels ≡ []
no_rows shape all h tick cancels is = grind arith

module _ {n m : ℕ} (shape : BankShape) (pace : Pace) (e : ℕ) where
  -- at the tick of the end of an action the bank is as behind it, and else as before it
  room_within : (all front : List (TimedEvent n m)) (y : TimedEvent n m) (now : List (TimedEvent n m)) (t : ℕ) → 1 ≤ pace.read → 1 ≤ pace.iter → Lawful shape pace e all → waits shape (core all) ≡ [] → all ≡ front ++ y ∷ now
      → last_tick now ≤ t → t ≤ y.tick → has_room (rules_of e shape pace) t (rows_from shape all now) ≡ true
  room_within all front y now t r i l none same up le = by (ends_action y.happens) refl (eq-or-lt_of_le le)
    where
      over : Lawful shape pace e (front ++ y ∷ now)
      over = subst (λ (xs : List (TimedEvent n m)). Lawful shape pace e xs) same l

      behind_it : EndsAbove t front
      behind_it = (ends_later shape pace e front (y ∷ now) t r i over le).0

      before_it : (ends_action y.happens ≡ true → t < y.tick) → has_room (rules_of e shape pace) t (rows_from shape all now) ≡ true
      before_it own = room_between shape pace e all (front ++ y ∷ []) now t r i l (behind shape pace e all front y now same) up (ends_push shape pace e t front y behind_it own) none

      by : (b : Bool) → ends_action y.happens ≡ b → (t ≡ y.tick) ⊎ (t < y.tick) → has_room (rules_of e shape pace) t (rows_from shape all now) ≡ true
      by b is (inr lt) = before_it (λ k. lt)
      by false is (inl at) = before_it (λ k. absurd (cc (is, k)))
      by true is (inl at) =
          subst (λ (rows : List (Row n)). has_room (rules_of e shape pace) t (rows ++ rows_from shape all now) ≡ true) (no_rows shape all y.happens y.tick y.cancels is)
          (room_between shape pace e all front (y ∷ now) t r i l same (omega (arith, at)) behind_it none)

pub room_law : (n m : ℕ) → RoomLaw n m
room_law n m e shape pace xs later t sized l still up ticks = by (last_of later)
  where
    none : waits shape (core (later ++ xs)) ≡ []
    none = still.unawaited

    by : (later ≡ []) ⊎ ((front : List (TimedEvent n m)) × (y : TimedEvent n m) × (later ≡ front ++ y ∷ [])) → has_room (rules_of e shape pace) t (rows_from shape (later ++ xs) xs) ≡ true
    by (inl alone) = room_between shape pace e (later ++ xs) later xs t sized.read sized.iter l refl up (subst (λ (ys : List (TimedEvent n m)). EndsAbove t ys) (sym alone) tt) none
    by (inr some) =
        room_within shape pace e (later ++ xs) some.0 some.1 xs t sized.read sized.iter l none (ap (λ ys. ys ++ xs) some.2 ∙ append_assoc some.0 (some.1 ∷ []) xs) up
        (all_last (λ x. t ≤ x.tick) some.0 some.1 (subst (λ (ys : List (TimedEvent n m)). All (λ x. t ≤ x.tick) ys) some.2 ticks))
