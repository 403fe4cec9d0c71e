-- When a read is forwarded, by the rows; and all that the rows show of the queue and of the waiting reads.
use Rattle.std.proofs.Common.{◌≡◌, ℕ, ◌≤◌, ◌==◌, ◌||◌, ◌⊎◌, inl, inr, Bool, true, false, List, [], ◌∷◌, ◌++◌, length, refl, sym, ap, ◌∙◌, subst, arith, cond, eqb}
use Rattle.std.{specs.List.list_any, proofs.lemmas.Bool.and_from}
use Rattle.result_rows.specs.declared.Outcome.{Outcome}
use Rattle.result_rows.specs.declared.Outcome.TheVariants as out
use Rattle.masked_bytes.specs.{Entries.{has_row, layer_of}, Masked.gives_all, declared.entry.Entry.Entry}
use Rattle.row_rules.specs.{Answers.is_forwarded, Queueing.{pending, waiting, cover, is_at_head, read_fits}, Rows.write_of, declared.Row.Row}
use Rattle.bank_shape.specs.{declared.BankShape.BankShape, declared.answer.ReadAnswer.ReadAnswer, declared.pace.Pace.Pace}
use Rattle.bank_shape.specs.declared.answer.ReadAnswer.TheVariants as came
use Rattle.bank_model.specs.{Answers.read_answer, Events.{BankEvent, Write, Read, Cut, RowsBelow, newest}, History.{awaited, queue, waits}, Lawful.{Lawful, MayCome}}
use Rattle.bank_model.{specs.Sensing.most_steps, specs.Timing.{Happens, Core, TimedEvent, core, core_of, last_tick}, proofs.Rising.RowsBelow-more}
use Rattle.bank_laws.{specs.Outcomes.{outcome_of, row_with, rows_from}, specs.RowLaws.waits_fit, specs.Ticks.ends_action, proofs.Asked.Wrote, proofs.Ending.{Onwards, own_answer}}
use Rattle.bank_laws.proofs.{Fates.{IsSettled, awaits-new}, Given.given-layer, Later.{EndsAbove, ends_at_row}, Lines.{Stands, stands-row}, Pairs.{AllLong, keeps_pairs}}
use Rattle.bank_laws.proofs.{Serves.{may_at, onwards_at}, Settling.lawful_before, Ticks.last_tick-rises}
use Rattle.bank_laws.proofs.{Waiting.{may_all, awaiting_length, read_room, fits_busy, fits_waiting, settled_all}, Walking.{Passes, walk, rows_after}}
use Rattle.queue_laws.{specs.QueueLaws.{is_forward_fair, ForwardLaw}, proofs.Covering.is_covered, proofs.Covers.cover_is, proofs.Floors.{since, floor_of}}
use Rattle.queue_laws.proofs.Heads.{HasStore, store-left, store-right, store-from, store-after, LineFirst, IsStoredFirst, line_first, line_is_first, any_entry}
use Rattle.queue_laws.proofs.{Rooms.{stands_well, behind}, Showing.{HasHead, front-covers, front-head}, Stood.{stood_each, pending_is}, Written.{items, standing, written}}

module _ {n : ℕ} where
  head-stands : (es : List (Entry n)) (line : ℕ) → HasHead line es → (row : ℕ) × Stands es row line
  head-stands [] line h = absurd h
  head-stands (e ∷ es) line h = (e.row, inl (refl, h))

  -- a forwarded answer comes where the queue gives all bytes, and another where it does not
  forwarded-gives : (shape : BankShape) (h : List (BankEvent n)) (line : ℕ) (bytes : List ℕ) → came.Forwarded bytes ≡ read_answer shape h line → gives_all ((layer_of (queue shape h) line).given) ≡ true
  forwarded-gives shape h line bytes f = by (gives_all ((layer_of (queue shape h) line).given)) (eqb (length (waits shape h)) shape.reads) f
    where
      by : (b c : Bool) → ◌≡◌ {A = ReadAnswer n} (came.Forwarded bytes) (cond b (came.Forwarded (newest h line)) (cond c came.Busy came.Waiting)) → b ≡ true
      by b c f = grind arith

  -- an answer by which a read is not forwarded
  abbrev NotForwarded : ReadAnswer n → Type 0
  NotForwarded (came.Forwarded bytes) = ⊥
  NotForwarded came.Busy = Unit {0}
  NotForwarded came.Waiting = Unit {0}

  others-lack : (shape : BankShape) (h : List (BankEvent n)) (line : ℕ) (answer : ReadAnswer n) → NotForwarded answer → answer ≡ read_answer shape h line → gives_all ((layer_of (queue shape h) line).given) ≡ false
  others-lack shape h line answer other a = by (gives_all ((layer_of (queue shape h) line).given)) (eqb (length (waits shape h)) shape.reads) a
    where
      by : (b c : Bool) → answer ≡ cond b (came.Forwarded (newest h line)) (cond c came.Busy came.Waiting) → b ≡ false
      by true c f = absurd (subst (λ (k : ReadAnswer n). NotForwarded k) f other)
      by false c f = refl

  -- what a read that isn't forwarded gets fits, by the waiting reads
  fits_other : (reads count : ℕ) (covered at_head : Bool) (o : Outcome n) → covered ≡ false → is_forwarded o ≡ false → waits_fit reads count o ≡ true → read_fits reads count covered at_head o ≡ true
  fits_other reads count true at_head o no_cover not_forwarded w = absurd (cc)
  fits_other reads count false at_head o no_cover not_forwarded w = by (is_forwarded o) _ not_forwarded w
    where
      by : (b other : Bool) → b ≡ false → (b || other) ≡ true → cond b at_head other ≡ true
      by b other f w = grind arith

  fits_forwarded : (reads count tick : ℕ) (bytes : List ℕ) (covered at_head : Bool) (o : Outcome n) → o ≡ out.Forwarded tick bytes → (covered ≡ false → at_head ≡ true) → read_fits reads count covered at_head o ≡ true
  fits_forwarded reads count tick bytes covered at_head o is head = ap (λ (o : Outcome n). read_fits reads count covered at_head o) is ∙ by covered head
    where
      by : (b : Bool) → (b ≡ false → at_head ≡ true) → cond b true at_head ≡ true
      by b h = grind arith

  settled-not_forwarded : (owed : List ℕ) (o : Outcome n) → IsSettled owed o → is_forwarded o ≡ false
  settled-not_forwarded owed o s = grind arith

one_down : {n m : ℕ} (x : TimedEvent n m) (ys : List (TimedEvent n m)) (bound : ℕ) → RowsBelow (core (x ∷ ys)) bound → RowsBelow (core ys) bound
one_down {n} x ys bound b = by x.happens b
  where
    by : (h : Happens n) → RowsBelow (core_of h (core ys)) bound → RowsBelow (core ys) bound
    by (Core (Write at line bytes given answer)) b = RowsBelow-more (core ys) at bound (omega (arith, b.0)) b.1
    by (Core (Read at line answer)) b = RowsBelow-more (core ys) at bound (omega (arith, b.0)) b.1
    by _ b = b

module _ {n m : ℕ} (shape : BankShape) (pace : Pace) (e : ℕ) (all later : List (TimedEvent n m)) (x : TimedEvent n m) (ys : List (TimedEvent n m)) (r : 1 ≤ pace.read) (i : 1 ≤ pace.iter) (l : Lawful shape pace e all) (same : all ≡ later ++ x ∷ ys)
    (arrives : ends_action x.happens ≡ false) where
  over : Lawful shape pace e (later ++ x ∷ ys)
  over = subst (λ (xs : List (TimedEvent n m)). Lawful shape pace e xs) same l

  there : Lawful shape pace e (x ∷ ys)
  there = lawful_before shape pace e later (x ∷ ys) over

  split : all ≡ (later ++ x ∷ []) ++ ys
  split = behind shape pace e all later x ys same

  up : last_tick ys ≤ x.tick
  up = last_tick-rises shape pace e ys x r i there

  ends : EndsAbove x.tick (later ++ x ∷ [])
  ends = ends_at_row shape pace e later ys x r i over arrives

  long : AllLong (queue shape (core ys))
  long = (keeps_pairs shape (most_steps e) (core ys) (may_all shape pace e ys there.1)).long

  -- what the accepted writes behind the last stored one give
  shown : (line : ℕ) → cover x.tick line (rows_from shape all ys) (rows_after shape all later) ≡ since (core ys) line (floor_of (outcome_of shape ys) (core ys) line)
  shown line = cover_is shape pace e all (later ++ x ∷ []) ys x.tick r i l split up ends line later (x ∷ ys) over (λ bound b. one_down x ys bound b)

  -- where the rows show all bytes as given, the queue gives them
  pub covers : (line : ℕ) → gives_all (cover x.tick line (rows_from shape all ys) (rows_after shape all later)) ≡ true → gives_all ((layer_of (queue shape (core ys)) line).given) ≡ true
  covers line c =
      ap gives_all (given-layer (queue shape (core ys)) line)
      ∙ front-covers (λ f. since (core ys) line f) line (floor_of (outcome_of shape ys) (core ys) line) (queue shape (core ys)) long ((is_covered shape pace e ys r i there.1).front line) (ap gives_all (sym (shown line)) ∙ c)

  -- where the queue gives more, the line has the head
  has_head : (line : ℕ) → gives_all (cover x.tick line (rows_from shape all ys) (rows_after shape all later)) ≡ false → gives_all ((layer_of (queue shape (core ys)) line).given) ≡ true → HasHead line (queue shape (core ys))
  has_head line c g =
      front-head (λ f. since (core ys) line f) line (floor_of (outcome_of shape ys) (core ys) line) (queue shape (core ys)) ((is_covered shape pace e ys r i there.1).front line)
      (ap gives_all (sym (shown line)) ∙ c) (ap gives_all (sym (given-layer (queue shape (core ys)) line)) ∙ g)

  -- a line that has the head is at the head by the rows
  pub at_head : (line : ℕ) → ((row : ℕ) → Wrote (core (x ∷ ys)) row line → Wrote (core ys) row line) → HasHead line (queue shape (core ys))
      → is_at_head x.tick line (pending x.tick [] (rows_from shape all ys)) (rows_from shape all ys) (rows_after shape all later) ≡ true
  at_head line asks head =
      subst (λ (rows : List (Row n)). is_at_head x.tick line rows (rows_from shape all ys) (rows_after shape all later) ≡ true) (sym (pending_is shape pace e all (later ++ x ∷ []) ys x.tick r i l split up ends))
      (and_from (list_any (write_of line) (items (standing (λ row. has_row (queue shape (core ys)) row) (written shape all ys)))) _
      (any_entry shape all (λ row. has_row (queue shape (core ys)) row) entry.0 line ys (stands-row (queue shape (core ys)) entry.0 line entry.1) ((is_covered shape pace e ys r i there.1).asked entry.0 line entry.1))
      (line_is_first shape all ys (stands_well shape pace e all (later ++ x ∷ []) ys r i l split) line x.tick (rows_from shape all ys ++ rows_after shape all later)
      (standing (λ row. has_row (queue shape (core ys)) row) (written shape all ys)) (stood_each shape pace e all (later ++ x ∷ []) ys x.tick r i l split up ends)
      (subst (λ (xs : List (TimedEvent n m)). LineFirst shape ys x.tick line xs) (sym split)
      (line_first shape pace e ys x.tick line (later ++ x ∷ []) ys r i (subst (λ (xs : List (TimedEvent n m)). Lawful shape pace e xs) split l) ends
      (inl (head, λ row u p unset s. let both : ◌≡◌ {A = Outcome n} (out.Stored u p) out.Unset = sym s ∙ unset in absurd (cc)))))
      has))
    where
      entry : (row : ℕ) × Stands (queue shape (core ys)) row line
      entry = head-stands (queue shape (core ys)) line head

      has : (s : IsStoredFirst shape ys x.tick line all) → HasStore line s.at (rows_from shape all ys ++ rows_after shape all later)
      has s = by (store-after shape all s.row line s.at s.place s.stored later (x ∷ ys) (subst (λ (xs : List (TimedEvent n m)). Wrote (core xs) s.row line) same s.asked))
        where
          by : HasStore line s.at (rows_after shape all later) ⊎ Wrote (core (x ∷ ys)) s.row line → HasStore line s.at (rows_from shape all ys ++ rows_after shape all later)
          by (inl k) = store-right line s.at (rows_from shape all ys) (rows_after shape all later) k
          by (inr a) = store-left line s.at (rows_from shape all ys) (rows_after shape all later) (store-from shape all s.row line s.at s.place s.stored ys (asks s.row a))

  -- what a read finds
  pub forwards : (line : ℕ) → ((row : ℕ) → Wrote (core (x ∷ ys)) row line → Wrote (core ys) row line) → gives_all ((layer_of (queue shape (core ys)) line).given) ≡ true
      → gives_all (cover x.tick line (rows_from shape all ys) (rows_after shape all later)) ≡ false
      → is_at_head x.tick line (pending x.tick [] (rows_from shape all ys)) (rows_from shape all ys) (rows_after shape all later) ≡ true
  forwards line asks g c = at_head line asks (has_head line c g)

  pub not_covered : (line : ℕ) → gives_all ((layer_of (queue shape (core ys)) line).given) ≡ false → gives_all (cover x.tick line (rows_from shape all ys) (rows_after shape all later)) ≡ false
  not_covered line g = by (gives_all (cover x.tick line (rows_from shape all ys) (rows_after shape all later))) refl
    where
      by : (b : Bool) → gives_all (cover x.tick line (rows_from shape all ys) (rows_after shape all later)) ≡ b → b ≡ false
      by true is = absurd (cc (g, covers line is))
      by false is = refl

module _ {n m : ℕ} (shape : BankShape) (pace : Pace) (e : ℕ) (all : List (TimedEvent n m)) where
  -- what a read finds, by what the queue gives
  record Finds (later : List (TimedEvent n m)) (x : TimedEvent n m) (ys : List (TimedEvent n m)) (h : Happens n) : Type 0 where
    forwards : (line : ℕ) → ((row : ℕ) → Wrote (core_of h (core ys)) row line → Wrote (core ys) row line) → gives_all ((layer_of (queue shape (core ys)) line).given) ≡ true
        → gives_all (cover x.tick line (rows_from shape all ys) (rows_after shape all later)) ≡ false
        → is_at_head x.tick line (pending x.tick [] (rows_from shape all ys)) (rows_from shape all ys) (rows_after shape all later) ≡ true
    not_covered : (line : ℕ) → gives_all ((layer_of (queue shape (core ys)) line).given) ≡ false → gives_all (cover x.tick line (rows_from shape all ys) (rows_after shape all later)) ≡ false
    count : length (waiting x.tick [] (rows_from shape all ys)) ≡ length (waits shape (core ys))

  finds : (later : List (TimedEvent n m)) (x : TimedEvent n m) (ys : List (TimedEvent n m)) → 1 ≤ pace.read → 1 ≤ pace.iter → Lawful shape pace e all → waits shape (core all) ≡ [] → all ≡ later ++ x ∷ ys → ends_action x.happens ≡ false → Finds later x ys x.happens
  finds later x ys r i l none same arrives =
      let whole : Lawful shape pace e (later ++ x ∷ ys) = subst (λ (xs : List (TimedEvent n m)). Lawful shape pace e xs) same l in
      record {
        forwards = λ line asks g c. forwards shape pace e all later x ys r i l same arrives line asks g c;
        not_covered = λ line g. not_covered shape pace e all later x ys r i l same arrives line g;
        count = awaiting_length shape pace e all (later ++ x ∷ []) ys x.tick r i l (behind shape pace e all later x ys same)
            (last_tick-rises shape pace e ys x r i (lawful_before shape pace e later (x ∷ ys) whole)) (ends_at_row shape pace e later ys x r i whole arrives) none;
      }

  forward_pass : (later : List (TimedEvent n m)) (x : TimedEvent n m) (ys : List (TimedEvent n m)) → 1 ≤ pace.read → 1 ≤ pace.iter → Lawful shape pace e all → waits shape (core all) ≡ [] → all ≡ later ++ x ∷ ys
      → Passes (is_forward_fair shape.reads) (rows_from shape all ys) (row_with shape all x.happens x.tick x.cancels) (rows_after shape all later)
  forward_pass later x ys r i l none same =
      by x.happens x.cancels (may_at shape pace e all later x ys l same) (onwards_at shape pace e all later x ys l same) (λ arrives. finds later x ys r i l none same arrives)
    where
      by : (h : Happens n) (cancels : Bool) → MayCome shape pace e ys x h → Onwards shape all ys x.tick h → (ends_action h ≡ false → Finds later x ys h)
          → Passes (is_forward_fair shape.reads) (rows_from shape all ys) (row_with shape all h x.tick cancels) (rows_after shape all later)
      by (Core (Write row line bytes given answer)) cancels may on f = refl
      by (Core (Read row line (came.Forwarded bytes))) cancels may on f =
          fits_forwarded shape.reads (length (waiting x.tick [] (rows_from shape all ys))) x.tick bytes (gives_all (cover x.tick line (rows_from shape all ys) (rows_after shape all later))) _ (outcome_of shape all row)
          (own_answer shape pace e all ys x (Core (Read row line (came.Forwarded bytes))) row (out.Forwarded x.tick bytes) on refl (λ is. absurd (cc)))
          ((f refl).forwards line (λ row a. a) (forwarded-gives shape (core ys) line bytes may.may.1))
      by (Core (Read row line came.Busy)) cancels may on f =
          let own : outcome_of shape all row ≡ out.Busy x.tick = own_answer shape pace e all ys x (Core (Read row line came.Busy)) row (out.Busy x.tick) on refl (λ is. absurd (cc)) in
          fits_other shape.reads (length (waiting x.tick [] (rows_from shape all ys))) (gives_all (cover x.tick line (rows_from shape all ys) (rows_after shape all later))) _ (outcome_of shape all row)
          ((f refl).not_covered line (others-lack shape (core ys) line came.Busy tt may.may.1)) (ap is_forwarded own)
          (fits_busy shape pace e all (length (waiting x.tick [] (rows_from shape all ys))) x.tick (outcome_of shape all row) own
          (ap (λ k. k == shape.reads) (f refl).count ∙ (read_room shape pace e all (core ys) line came.Busy may.may.1).0 refl))
      by (Core (Read row line came.Waiting)) cancels may on f =
          let settled : IsSettled (newest (core ys) line) (outcome_of shape all row) =
          settled_all shape pace e all row (newest (core ys) line) none
          (on.reads row (newest (core ys) line) (inl (awaits-new (waits shape (core ys)) (awaited row line (newest (core ys) line) (layer_of (queue shape (core ys)) line))))) in
          fits_other shape.reads (length (waiting x.tick [] (rows_from shape all ys))) (gives_all (cover x.tick line (rows_from shape all ys) (rows_after shape all later))) _ (outcome_of shape all row)
          ((f refl).not_covered line (others-lack shape (core ys) line came.Waiting tt may.may.1)) (settled-not_forwarded (newest (core ys) line) (outcome_of shape all row) settled)
          (fits_waiting shape pace e all (length (waiting x.tick [] (rows_from shape all ys))) (newest (core ys) line) (outcome_of shape all row) settled
          (ap (λ k. k == shape.reads) (f refl).count ∙ (read_room shape pace e all (core ys) line came.Waiting may.may.1).1 refl))
      by (Core (Cut tearing)) false may on f = refl
      by _ _ may on f = tt

pub forward_law : ForwardLaw
forward_law n m e shape pace xs sized l still =
    walk shape xs (is_forward_fair shape.reads) [] xs refl (λ later x ys same. forward_pass shape pace e xs later x ys sized.read sized.iter l still.unawaited same)
