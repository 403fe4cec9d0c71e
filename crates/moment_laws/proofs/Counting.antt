-- As many entries stand in a bank's queue as writes of it are queued by the rows, and as many reads wait as have no outcome.
use Rattle.std.proofs.Common.{◌≡◌, ◌≢◌, ℕ, suc, ◌+◌, ◌<◌, ◌≤◌, ◌==◌, ◌&&◌, ◌||◌, inl, inr, cond, Bool, true, false, List, [], ◌∷◌, ◌++◌, length, drop, refl, sym, ap, subst, ◌∙◌, append_assoc, arith, eqb-true}
use Rattle.std.{specs.Prelude.{All, count_by, filter}, proofs.lemmas.Bool.ne_eqb, proofs.lemmas.List.{length-map, length_push}}
use Rattle.std.proofs.lemmas.List.Elements.{All-head, All-tail, All-nil, All-cons, All-weaker}
use Rattle.masked_bytes.{specs.Entries.layer_of, proofs.Counting.{count-cons, one_if}, proofs.Truth.and_second}
use Rattle.cell_rows.specs.Device.{ArrayState}
use Rattle.result_rows.specs.declared.Outcome.{Outcome}
use Rattle.result_rows.specs.declared.Outcome.TheVariants as out
use Rattle.row_rules.specs.{Answers.{accepts, is_merged, is_queued}, declared.Asks.Asks, declared.Asks.TheVariants.{Reads, Writes, Cuts}, declared.Row.Row}
use Rattle.bank_shape.specs.{declared.BankShape.BankShape, declared.answer.ReadAnswer.ReadAnswer, declared.pace.Pace.Pace}
use Rattle.bank_shape.specs.declared.answer.ReadAnswer.TheVariants as came
use Rattle.bank_model.specs.{Events.{Write, Read, Serve, Begin, Iterate, Cut, RowsBelow, newest}, History.{Awaited, awaited, queue, waits}, Lawful.{Lawful, MayCome}}
use Rattle.bank_model.specs.Timing.{Happens, Core, Regs, TimedEvent, core, core_of}
use Rattle.bank_invariant.specs.{Holds.{Holds, waiting_of}, State.BankState}
use Rattle.bank_laws.{specs.Outcomes.{ended, on_row, outcome_of, outcome_with, row_with, rows_from, table_of}, specs.Standing.has_wait, proofs.Ending.{Onwards, own_answer}}
use Rattle.bank_laws.proofs.{Fates.{IsSettled, ReadFate, awaits-has, awaits-new}, Serves.onwards_at, Settling.opens, Standing.stand_apart}
use Rattle.queue_laws.specs.EntryLaws.{is_head_begun}
use Rattle.right_runs.specs.Queued.{QueuedWrite, by_order, coming, entries_by, entry_by, merging, queued_after, queued_writes}
use Rattle.end_laws.{specs.EndLaws.queue_entry, proofs.Queueing.queue-by_rows}
use Rattle.answered_laws.specs.Answered.{is_open}
use Rattle.moment_laws.specs.Backlogs.{is_open_read, is_queued_write}

-- ---- counts

bool-same : (a b : Bool) → (a ≡ true → b ≡ true) → (b ≡ true → a ≡ true) → a ≡ b
bool-same true true there back = refl
bool-same true false there back = sym (there refl)
bool-same false true there back = back refl
bool-same false false there back = refl

filter-count : {X : Type 0} (p : X → Bool) (xs : List X) → length (filter p xs) ≡ count_by p xs
filter-count p [] = refl
filter-count p (x ∷ xs) = by (p x) (filter-count p xs) ∙ sym (count-cons p x xs)
  where
    by : (b : Bool) → length (filter p xs) ≡ count_by p xs → length (cond b (x ∷ filter p xs) (filter p xs)) ≡ one_if b + count_by p xs
    by true ih = omega (arith, ih)
    by false ih = omega (arith, ih)

count-none : {X : Type 0} (p : X → Bool) (xs : List X) → All (λ x. p x ≡ false) xs → count_by p xs ≡ 0
count-none p [] none = refl
count-none p (x ∷ xs) none =
    let rest = count-none p xs (All-tail (λ x. p x ≡ false) x xs none) in
    count-cons p x xs ∙ ap (λ b. one_if b + count_by p xs) (All-head (λ x. p x ≡ false) x xs none) ∙ omega (arith, rest)

count-same : {X : Type 0} (p q : X → Bool) (xs : List X) → All (λ x. p x ≡ q x) xs → count_by p xs ≡ count_by q xs
count-same p q [] same = refl
count-same p q (x ∷ xs) same =
    let rest = count-same p q xs (All-tail (λ x. p x ≡ q x) x xs same) in
    count-cons p x xs ∙ ap (λ b. one_if b + count_by p xs) (All-head (λ x. p x ≡ q x) x xs same) ∙ ap (λ k. one_if (q x) + k) rest ∙ sym (count-cons q x xs)

count-either : {X : Type 0} (p q : X → Bool) (xs : List X) → count_by (λ x. p x || q x) xs ≤ count_by p xs + count_by q xs
count-either p q [] = omega arith
count-either p q (x ∷ xs) =
    let rest = count-either p q xs in
    let one = few (p x) (q x) in
    omega (arith, rest, one, count-cons p x xs, count-cons q x xs, count-cons (λ x. p x || q x) x xs)
  where
    few : (a b : Bool) → one_if (a || b) ≤ one_if a + one_if b
    few true b = omega arith
    few false true = omega arith
    few false false = omega arith

-- ---- writes

module _ {n : ℕ} where
  abbrev stays-queued : QueuedWrite n → Bool
  stays-queued w = is_queued w.outcome

  merged-not : (o : Outcome n) → is_merged o ≡ true → is_queued o ≡ false
  merged-not (out.Merged tick) is = refl
  merged-not (out.Unset) is = absurd (cc is)
  merged-not (out.Stored tick place) is = absurd (cc is)
  merged-not (out.Queued tick) is = absurd (cc is)
  merged-not (out.Full tick) is = absurd (cc is)
  merged-not (out.Worn tick) is = absurd (cc is)
  merged-not (out.Read tick place bytes) is = absurd (cc is)
  merged-not (out.Forwarded tick bytes) is = absurd (cc is)
  merged-not (out.Busy tick) is = absurd (cc is)
  merged-not (out.Lost tick) is = absurd (cc is)
  merged-not (out.Cut tick) is = absurd (cc is)

  -- a write is one more, whatever is merged into it
  count-after : (w : QueuedWrite n) (ws : List (QueuedWrite n)) → count_by stays-queued (queued_after w ws) ≡ one_if (is_queued w.outcome) + count_by stays-queued ws
  count-after w [] = count-cons stays-queued w []
  count-after w (old ∷ ws) = by (old.line == w.line && is_merged old.outcome) refl (count-after w ws)
    where
      by : (into : Bool) → (old.line == w.line && is_merged old.outcome) ≡ into
          → count_by stays-queued (queued_after w ws) ≡ one_if (is_queued w.outcome) + count_by stays-queued ws
          → count_by stays-queued (cond into (merging w old ∷ ws) (old ∷ queued_after w ws)) ≡ one_if (is_queued w.outcome) + count_by stays-queued (old ∷ ws)
      by true into ih =
          let none : one_if (is_queued old.outcome) ≡ 0 = ap one_if (merged-not old.outcome (and_second (old.line == w.line) (is_merged old.outcome) into)) in
          count-cons stays-queued (merging w old) ws ∙ omega (arith, none, count-cons stays-queued old ws)
      by false into ih = omega (arith, ih, count-cons stays-queued old (queued_after w ws), count-cons stays-queued old ws)

  queued-accepted : (o : Outcome n) → accepts o ≡ false → is_queued o ≡ false
  queued-accepted (out.Queued tick) rejected = absurd (cc rejected)
  queued-accepted (out.Unset) rejected = refl
  queued-accepted (out.Stored tick place) rejected = refl
  queued-accepted (out.Merged tick) rejected = refl
  queued-accepted (out.Full tick) rejected = refl
  queued-accepted (out.Worn tick) rejected = refl
  queued-accepted (out.Read tick place bytes) rejected = refl
  queued-accepted (out.Forwarded tick bytes) rejected = refl
  queued-accepted (out.Busy tick) rejected = refl
  queued-accepted (out.Lost tick) rejected = refl
  queued-accepted (out.Cut tick) rejected = refl

  -- as many of the writes in their order are queued as of the rows
  count-order : (rows : List (Row n)) → count_by stays-queued (by_order rows) ≡ count_by is_queued_write rows
  count-order [] = refl
  count-order (r ∷ rows) = by r.tick r.asks r.outcome (count-order rows) ∙ sym (count-cons is_queued_write r rows)
    where
      by : (tick : ℕ) (asks : Asks n) (o : Outcome n) → count_by stays-queued (by_order rows) ≡ count_by is_queued_write rows
          → count_by stays-queued (by_order (record { tick = tick; asks = asks; outcome = o } ∷ rows))
          ≡ one_if (is_queued_write (record { tick = tick; asks = asks; outcome = o })) + count_by is_queued_write rows
      by tick (Reads line) o ih = omega (arith, ih)
      by tick Cuts o ih = omega (arith, ih)
      by tick (Writes line bytes given) o ih = taken (accepts o) refl
        where
          w : QueuedWrite n
          w = coming rows (record { tick = tick; asks = Writes line bytes given; outcome = o })

          taken : (b : Bool) → accepts o ≡ b → count_by stays-queued (cond b (queued_after w (by_order rows)) (by_order rows)) ≡ one_if (is_queued o) + count_by is_queued_write rows
          taken true is = count-after w (by_order rows) ∙ ap (λ k. one_if (is_queued o) + k) ih
          taken false is = let none : one_if (is_queued o) ≡ 0 = ap one_if (queued-accepted o is) in omega (arith, ih, none)

  entries-length : (begun : Bool) (ws : List (QueuedWrite n)) → length (entries_by begun ws) ≡ length ws
  entries-length begun [] = refl
  entries-length begun (w ∷ ws) = ap suc (length-map ws (entry_by false))

  -- ---- reads

  -- the rows of the reads among events, the newest first
  abbrev reads-with : Happens n → List ℕ → List ℕ
  reads-with (Core (Read row line answer)) rest = row ∷ rest
  reads-with _ rest = rest

  abbrev reads-in : {m : ℕ} → List (TimedEvent n m) → List ℕ
  reads-in [] = []
  reads-in (x ∷ xs) = reads-with x.happens (reads-in xs)

  settled-open : (owed : List ℕ) (o : Outcome n) → IsSettled owed o → is_open o ≡ false
  settled-open owed (out.Read tick place bytes) settled = refl
  settled-open owed (out.Lost tick) settled = refl
  settled-open owed _ settled = absurd settled

-- one more read that waits
wait-push : (ws : List Awaited) (w : Awaited) (row : ℕ) → w.row ≢ row → has_wait (ws ++ w ∷ []) row ≡ has_wait ws row
wait-push [] w row other = ap (λ b. b || false) (ne_eqb w.row row other)
wait-push (v ∷ ws) w row other = ap (λ b. (v.row == row) || b) (wait-push ws w row other)

-- so no more of them wait than reads that wait
few : (rows : List ℕ) → ((row : ℕ) → count_by (λ k. row == k) rows ≤ 1) → (ws : List Awaited) → count_by (has_wait ws) rows ≤ length ws
few rows one [] = let none = count-none (has_wait []) rows (λ k d below. refl) in omega (arith, none)
few rows one (w ∷ ws) =
    let rest = few rows one ws in
    let own = one w.row in
    let both = count-either (λ k. w.row == k) (has_wait ws) rows in
    omega (arith, rest, own, both)

module _ {n m : ℕ} (shape : BankShape) (pace : Pace) (e : ℕ) where
  -- the rows of reads are below the next row
  reads-below : (xs : List (TimedEvent n m)) (next : ℕ) → RowsBelow (core xs) next → All (λ row. row < next) (reads-in xs)
  reads-below [] next below = All-nil (λ row. row < next)
  reads-below (x ∷ xs) next below = by x.happens below (λ bound b. reads-below xs bound b)
    where
      by : (h : Happens n) → RowsBelow (core_of h (core xs)) next → ((bound : ℕ) → RowsBelow (core xs) bound → All (λ row. row < bound) (reads-in xs)) → All (λ row. row < next) (reads-with h (reads-in xs))
      by (Core (Read row line answer)) below ih =
          All-cons (λ row. row < next) row (reads-in xs) below.0 (All-weaker (λ k. k < row) (λ k. k < next) (λ k lt. omega (arith, lt, below.0)) (reads-in xs) (ih row below.1))
      by (Core (Write row line bytes given answer)) below ih = All-weaker (λ k. k < row) (λ k. k < next) (λ k lt. omega (arith, lt, below.0)) (reads-in xs) (ih row below.1)
      by (Core (Serve answer)) below ih = ih next below
      by (Core (Begin answer)) below ih = ih next below
      by (Core (Iterate answer)) below ih = ih next below
      by (Core (Cut tearing)) below ih = ih next below
      by (Regs event) below ih = ih next below

  -- no two reads have one row
  once : (xs : List (TimedEvent n m)) → Lawful shape pace e xs → (row : ℕ) → count_by (λ k. row == k) (reads-in xs) ≤ 1
  once [] l row = omega arith
  once (x ∷ xs) l row = by x.happens l.0 (once xs l.1 row)
    where
      by : (h : Happens n) → MayCome shape pace e xs x h → count_by (λ k. row == k) (reads-in xs) ≤ 1 → count_by (λ k. row == k) (reads-with h (reads-in xs)) ≤ 1
      by (Core (Read at line answer)) may ih = own (row == at) refl
        where
          own : (b : Bool) → (row == at) ≡ b → count_by (λ k. row == k) (at ∷ reads-in xs) ≤ 1
          own false is =
              let none : one_if (row == at) ≡ 0 = ap one_if is in
              omega (arith, ih, none, count-cons (λ k. row == k) at (reads-in xs))
          own true is =
              let same : row ≡ at = eqb-true row at is in
              let none = count-none (λ k. row == k) (reads-in xs)
              (All-weaker (λ k. k < at) (λ k. (row == k) ≡ false) (λ k lt. ne_eqb row k (λ other. omega (arith, lt, other, same))) (reads-in xs) (reads-below xs at may.asked)) in
              let one : one_if (row == at) ≡ 1 = ap one_if is in
              omega (arith, none, one, count-cons (λ k. row == k) at (reads-in xs))
      by _ may ih = ih

  -- as many as wait
  waits-counted : (xs : List (TimedEvent n m)) → Lawful shape pace e xs → count_by (has_wait (waits shape (core xs))) (reads-in xs) ≡ length (waits shape (core xs))
  waits-counted [] l = refl
  waits-counted (x ∷ xs) l = by x.happens l.0 (waits-counted xs l.1) (once xs l.1)
    where
      ws : List Awaited
      ws = waits shape (core xs)

      rows : List ℕ
      rows = reads-in xs

      -- a read that doesn't wait
      passes : (row : ℕ) → RowsBelow (core xs) row → count_by (has_wait ws) rows ≡ length ws → count_by (has_wait ws) (row ∷ rows) ≡ length ws
      passes row below ih =
          let none : one_if (has_wait ws row) ≡ 0 = ap one_if ((stand_apart shape (core xs) row below).waiting_below row (omega arith)) in
          omega (arith, ih, none, count-cons (has_wait ws) row rows)

      -- one that does
      waits-now : (row : ℕ) (w : Awaited) → w.row ≡ row → RowsBelow (core xs) row → count_by (has_wait ws) rows ≡ length ws
          → count_by (has_wait (ws ++ w ∷ [])) (row ∷ rows) ≡ length (ws ++ w ∷ [])
      waits-now row w own below ih =
          let here : has_wait (ws ++ w ∷ []) row ≡ true = subst (λ k. has_wait (ws ++ w ∷ []) k ≡ true) own (awaits-has (ws ++ w ∷ []) w.row w.newest (awaits-new ws w)) in
          let one : one_if (has_wait (ws ++ w ∷ []) row) ≡ 1 = ap one_if here in
          let others : count_by (has_wait (ws ++ w ∷ [])) rows ≡ count_by (has_wait ws) rows =
          count-same (has_wait (ws ++ w ∷ [])) (has_wait ws) rows
          (All-weaker (λ k. k < row) (λ k. has_wait (ws ++ w ∷ []) k ≡ has_wait ws k) (λ k lt. wait-push ws w k (λ same. omega (arith, lt, same, own))) rows (reads-below xs row below)) in
          omega (arith, ih, one, others, count-cons (has_wait (ws ++ w ∷ [])) row rows, length_push ws w)

      served : (all : List Awaited) → count_by (has_wait all) rows ≡ length all → ((row : ℕ) → count_by (λ k. row == k) rows ≤ 1) → count_by (has_wait (drop 1 all)) rows ≡ length (drop 1 all)
      served [] ih one = ih
      served (w ∷ rest) ih one =
          let own = one w.row in
          let most = few rows one rest in
          let both = count-either (λ k. w.row == k) (has_wait rest) rows in
          omega (arith, ih, own, most, both)

      by : (h : Happens n) → MayCome shape pace e xs x h → count_by (has_wait ws) rows ≡ length ws → ((row : ℕ) → count_by (λ k. row == k) rows ≤ 1)
          → count_by (has_wait (waits shape (core_of h (core xs)))) (reads-with h rows) ≡ length (waits shape (core_of h (core xs)))
      by (Core (Read row line came.Waiting)) may ih one = waits-now row (awaited row line (newest (core xs) line) (layer_of (queue shape (core xs)) line)) refl may.asked ih
      by (Core (Read row line (came.Forwarded bytes))) may ih one = passes row may.asked ih
      by (Core (Read row line came.Busy)) may ih one = passes row may.asked ih
      by (Core (Serve answer)) may ih one = served ws ih one
      by (Core (Cut tearing)) may ih one = count-none (has_wait []) rows (λ k d below. refl)
      by (Core (Write row line bytes given answer)) may ih one = ih
      by (Core (Begin answer)) may ih one = ih
      by (Core (Iterate answer)) may ih one = ih
      by (Regs event) may ih one = ih

  module _ (all : List (TimedEvent n m)) (l : Lawful shape pace e all) where
    -- a read has no outcome exactly while it waits
    open-waits : (ys : List (TimedEvent n m)) (x : TimedEvent n m) (row line : ℕ) (answer : ReadAnswer n) → Onwards shape all ys x.tick (Core (Read row line answer))
        → is_open (outcome_of shape all row) ≡ has_wait (waits shape (core all)) row
    open-waits ys x row line answer on =
        bool-same (is_open (outcome_of shape all row)) (has_wait (waits shape (core all)) row) (by answer on) (λ waits. ap is_open ((opens shape pace e all l).waiting row waits))
      where
        answered : (answer : ReadAnswer n) (o : Outcome n) → Onwards shape all ys x.tick (Core (Read row line answer))
            → outcome_with shape ys (Core (Read row line answer)) x.tick row ≡ on_row row row o → o ≢ out.Unset → is_open o ≡ false
            → is_open (outcome_of shape all row) ≡ true → has_wait (waits shape (core all)) row ≡ true
        answered answer o on is set closed opened =
            absurd (cc (sym closed ∙ sym (ap is_open (own_answer shape pace e all ys x (Core (Read row line answer)) row o on is set)) ∙ opened))

        waiting : ReadFate shape all row (newest (core ys) line) → is_open (outcome_of shape all row) ≡ true → has_wait (waits shape (core all)) row ≡ true
        waiting (inl awaits) opened = awaits-has (waits shape (core all)) row (newest (core ys) line) awaits
        waiting (inr settled) opened = absurd (cc (sym (settled-open (newest (core ys) line) (outcome_of shape all row) settled) ∙ opened))

        by : (answer : ReadAnswer n) → Onwards shape all ys x.tick (Core (Read row line answer)) → is_open (outcome_of shape all row) ≡ true → has_wait (waits shape (core all)) row ≡ true
        by (came.Forwarded bytes) on = answered (came.Forwarded bytes) (out.Forwarded x.tick bytes) on refl (λ is. absurd (cc)) refl
        by came.Busy on = answered came.Busy (out.Busy x.tick) on refl (λ is. absurd (cc)) refl
        by came.Waiting on =
            waiting (on.reads row (newest (core ys) line) (inl (awaits-new (waits shape (core ys)) (awaited row line (newest (core ys) line) (layer_of (queue shape (core ys)) line)))))

    rows-counted : (later ys : List (TimedEvent n m)) → all ≡ later ++ ys → count_by is_open_read (rows_from shape all ys) ≡ count_by (has_wait (waits shape (core all))) (reads-in ys)
    rows-counted later [] same = refl
    rows-counted later (x ∷ ys) same =
        by x.happens x.cancels (onwards_at shape pace e all later x ys l same) (rows-counted (later ++ x ∷ []) ys (same ∙ sym (append_assoc later (x ∷ []) ys)))
      where
        by : (h : Happens n) (cancels : Bool) → Onwards shape all ys x.tick h → count_by is_open_read (rows_from shape all ys) ≡ count_by (has_wait (waits shape (core all))) (reads-in ys)
            → count_by is_open_read (row_with shape all h x.tick cancels ++ rows_from shape all ys) ≡ count_by (has_wait (waits shape (core all))) (reads-with h (reads-in ys))
        by (Core (Read row line answer)) cancels on ih =
            count-cons is_open_read (record { tick = x.tick; asks = Reads line; outcome = outcome_of shape all row }) (rows_from shape all ys)
            ∙ ap (λ b. one_if b + count_by is_open_read (rows_from shape all ys)) (open-waits ys x row line answer on)
            ∙ ap (λ k. one_if (has_wait (waits shape (core all)) row) + k) ih
            ∙ sym (count-cons (has_wait (waits shape (core all))) row (reads-in ys))
        by (Core (Write row line bytes given answer)) cancels on ih =
            count-cons is_open_read (record { tick = x.tick; asks = Writes line bytes given; outcome = ended x.tick (outcome_of shape all row) }) (rows_from shape all ys) ∙ omega (arith, ih)
        by (Core (Cut tearing)) false on ih = count-cons is_open_read (record { tick = x.tick; asks = Cuts; outcome = out.Cut x.tick }) (rows_from shape all ys) ∙ omega (arith, ih)
        by (Core (Cut tearing)) true on ih = ih
        by (Core (Serve answer)) cancels on ih = ih
        by (Core (Begin answer)) cancels on ih = ih
        by (Core (Iterate answer)) cancels on ih = ih
        by (Regs event) cancels on ih = ih

module _ {n m e : ℕ} (pace : Pace) (xs : List (TimedEvent n m)) (bank : BankState n m e) (array : ArrayState n m) (l : Lawful bank.kept.shape pace e xs) (holds : Holds (core xs) bank array) where
  pub entries-counted : length bank.kept.entries ≡ count_by is_queued_write (table_of bank.kept.shape xs)
  entries-counted =
      let shape : BankShape = bank.kept.shape in
      let rows : List (Row n) = table_of shape xs in
      let begun : Bool = is_head_begun shape (core xs) in
      ap length holds.entries ∙ sym (length-map (queue shape (core xs)) queue_entry) ∙ ap length (queue-by_rows shape xs pace e l)
      ∙ entries-length begun (queued_writes rows) ∙ filter-count stays-queued (by_order rows) ∙ count-order rows

  pub waiting-counted : length bank.waiting ≡ count_by is_open_read (table_of bank.kept.shape xs)
  waiting-counted =
      let shape : BankShape = bank.kept.shape in
      ap length holds.waiting ∙ length-map (waits shape (core xs)) (waiting_of {n = n}) ∙ sym (waits-counted shape pace e xs l) ∙ sym (rows-counted shape pace e xs l [] xs refl)
