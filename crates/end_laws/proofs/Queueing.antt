-- The queue that a lawful history leaves holds the writes that are queued by its rows, in their order.
use Rattle.std.proofs.Common.{◌≡◌, ℕ, ◌==◌, ◌&&◌, ◌||◌, ◌⊎◌, inl, inr, Bool, true, false, List, [], ◌∷◌, ◌++◌, map, filter, Some, drop, refl, sym, ap, ◌∙◌, subst, cond, eqb, eqb-true, append_assoc}
use Rattle.std.{specs.List.list_any, proofs.lemmas.Bool.{eq-eqb, and_right, or_right}}
use Rattle.result_rows.specs.declared.Outcome.{Outcome}
use Rattle.result_rows.specs.declared.Outcome.TheVariants as out
use Rattle.masked_bytes.{specs.Entries.{Layer, has_row, RowsApart, stacked}, specs.declared.entry.Entry.Entry, proofs.Layering.all_given-gives_all, proofs.Truth.differ_sym}
use Rattle.row_rules.specs.{Answers.{accepts, is_merged, is_queued}, declared.Asks.TheVariants.Writes, declared.Row.Row}
use Rattle.row_rules.specs.Rows as rows
use Rattle.bank_shape.specs.{declared.BankShape.BankShape, declared.answer.WriteAnswer.WriteAnswer, declared.pace.Pace.Pace}
use Rattle.bank_shape.specs.declared.answer.WriteAnswer.TheVariants as wrote
use Rattle.bank_shape.specs.declared.answer.Step.TheVariants as did
use Rattle.bank_model.specs.{Events.{BankEvent, Write, Begin, Iterate, Cut, RowsBelow, newest, up_to}, History.{begun, queue, due_after}, Lawful.{Lawful, MayCome}}
use Rattle.bank_model.specs.{Sensing.most_steps, Timing.{Happens, Core, Regs, TimedEvent, core, core_of}}
use Rattle.bank_laws.{specs.Outcomes.{outcome_of, ended, row_with, rows_from, table_of}, specs.Pairs.has_line, specs.Settling.AreOpen, proofs.Answering.{IsHead, stored-head}}
use Rattle.bank_laws.proofs.Ending.{Onwards, own_row, accepting, outcome-accepts, write_outcome}
use Rattle.bank_laws.proofs.{Lines.{Stands, Covered, stands-row, stands-one, covered-stands, covered-new, covered-merged, merges-stands, merges-covers}, Merging.StoredBy}
use Rattle.bank_laws.proofs.{Pending.covered_on, Serves.{newest_same, onwards_at}, Settling.{opens, above_all, lawful_before, stays, step_stays}, Standing.stand_apart}
use Rattle.bank_laws.proofs.Waiting.{may_all}
use Rattle.queue_laws.{specs.EntryLaws.{line_written, given_by, is_head_begun}, proofs.Owned.{IsOwn, AreOwn, EachOwn, queue-own}}
use Rattle.right_runs.specs.Queued.{QueueEntry, QueuedWrite, first_again, coming, queued_after, by_order, queued_writes, entry_by, entries_by}
use Rattle.end_laws.{specs.EndLaws.queue_entry, proofs.Begun.Again, proofs.Heads.{above, written-below, HeadWhole, head-whole}}
use Rattle.end_laws.proofs.Placing.{Numbered, fits, merging_as, put, writes, writes-put, Each, each-map, each-both, Match, match-stands, match-stays, match-accepted, match-drop}
use Rattle.end_laws.proofs.Placing.{match-begun, match-merged, each-accepted, each-merged}

module _ {n m : ℕ} (shape : BankShape) (all : List (TimedEvent n m)) where
  abbrev row_of : ℕ → ℕ → ℕ → List ℕ → List Bool → Row n
  row_of row tick line bytes given = record { tick = tick; asks = Writes line bytes given; outcome = ended tick (outcome_of shape all row) }

  -- the accepted writes of these events by their places, where `all` is the whole history
  abbrev numbered_by : List (TimedEvent n m) → Happens n → ℕ → List (Numbered n) → List (Numbered n)
  numbered_by zs (Core (Write row line bytes given answer)) tick ws =
      cond (accepts (ended tick (outcome_of shape all row)))
      (put (record { row = row; write = coming (rows_from shape all zs) (row_of row tick line bytes given) }) ws) ws
  numbered_by zs happens tick ws = ws

  abbrev numbered : List (TimedEvent n m) → List (Numbered n)
  numbered [] = []
  numbered (x ∷ zs) = numbered_by zs x.happens x.tick (numbered zs)

  -- without the numbers they are those of the rows
  numbered-rows : (zs : List (TimedEvent n m)) → writes (numbered zs) ≡ by_order (rows_from shape all zs)
  numbered-rows [] = refl
  numbered-rows (x ∷ zs) = by x.happens x.cancels (numbered-rows zs)
    where
      one : (b : Bool) (w : Numbered n) → writes (numbered zs) ≡ by_order (rows_from shape all zs)
          → writes (cond b (put w (numbered zs)) (numbered zs)) ≡ cond b (queued_after w.write (by_order (rows_from shape all zs))) (by_order (rows_from shape all zs))
      one true w ih = writes-put w (numbered zs) ∙ ap (λ ws. queued_after w.write ws) ih
      one false w ih = ih

      by : (h : Happens n) (cancels : Bool) → writes (numbered zs) ≡ by_order (rows_from shape all zs)
          → writes (numbered_by zs h x.tick (numbered zs)) ≡ by_order (row_with shape all h x.tick cancels ++ rows_from shape all zs)
      by (Core (Write row line bytes given answer)) cancels ih =
          one (accepts (ended x.tick (outcome_of shape all row))) (record { row = row; write = coming (rows_from shape all zs) (row_of row x.tick line bytes given) }) ih
      by (Core (Cut tearing)) true ih = ih
      by _ _ ih = ih

  -- a write by its order is that of its row: its outcome, its line, what it gives, and its line's newest bytes
  record IsItem (past : List (BankEvent n)) (w : Numbered n) : Type 0 where
    ends : (tick : ℕ) × (w.write.outcome ≡ ended tick (outcome_of shape all w.row))
    line : line_written w.row past ≡ Some w.write.line
    gives : given_by w.row past ≡ w.write.gives
    newest_is : newest (up_to w.row past) w.write.line ≡ w.write.newest

  -- it stays so behind a later write
  item-behind : (past : List (BankEvent n)) (at l : ℕ) (bytes : List ℕ) (given : List Bool) (answer : WriteAnswer) → RowsBelow past at → (w : Numbered n) → IsItem past w
      → IsItem (Write at l bytes given answer ∷ past) w
  item-behind past at l bytes given answer below w is = by answer
    where
      later : (at == w.row) ≡ false
      later = above at w.row (written-below past at w.row w.write.line below is.line)

      by : (answer : WriteAnswer) → IsItem (Write at l bytes given answer ∷ past) w
      by wrote.Accepted = record {
        ends = is.ends;
        line = ap (λ b. cond b (Some l) (line_written w.row past)) later ∙ is.line;
        gives = ap (λ b. cond b (record { bytes = bytes; given = given }) (given_by w.row past)) later ∙ is.gives;
        newest_is = ap (λ b. newest (cond b (Write at l bytes given wrote.Accepted ∷ past) (up_to w.row past)) w.write.line) later ∙ is.newest_is;
      }
      by (wrote.Merged old) = record {
        ends = is.ends;
        line = ap (λ b. cond b (Some l) (line_written w.row past)) later ∙ is.line;
        gives = ap (λ b. cond b (stacked (record { bytes = bytes; given = given }) (given_by old past)) (given_by w.row past)) later ∙ is.gives;
        newest_is = ap (λ b. newest (cond b (Write at l bytes given (wrote.Merged old) ∷ past) (up_to w.row past)) w.write.line) later ∙ is.newest_is;
      }
      by wrote.Full = record {
        ends = is.ends;
        line = is.line;
        gives = is.gives;
        newest_is = ap (λ b. newest (cond b (Write at l bytes given wrote.Full ∷ past) (up_to w.row past)) w.write.line) later ∙ is.newest_is;
      }
      by wrote.Exhausted = record {
        ends = is.ends;
        line = is.line;
        gives = is.gives;
        newest_is = ap (λ b. newest (cond b (Write at l bytes given wrote.Exhausted ∷ past) (up_to w.row past)) w.write.line) later ∙ is.newest_is;
      }

  -- and behind any other event
  abbrev NoWrite : BankEvent n → Type 0
  NoWrite (Write row line bytes given answer) = ⊥
  NoWrite event = Unit {0}

  item-over : (past : List (BankEvent n)) (event : BankEvent n) → NoWrite event → (w : Numbered n) → IsItem past w → IsItem (event ∷ past) w
  item-over past (Write row line bytes given answer) none w is = absurd none
  item-over past _ none w is = record { ends = is.ends; line = is.line; gives = is.gives; newest_is = is.newest_is }

  -- these writes are so, and those that aren't gone are the queue's
  record PlacedIn (past : List (BankEvent n)) (gone : ℕ → Type 0) (ws : List (Numbered n)) : Type 0 where
    each : Each (λ w. IsItem past w) ws
    match : Match gone (queue shape past) ws

  abbrev IsStored : List (TimedEvent n m) → ℕ → Type 0
  IsStored zs row = (u : ℕ) × (p : ℕ) × (outcome_of shape zs row ≡ out.Stored u p)

  abbrev Placed : List (TimedEvent n m) → Type 0
  Placed zs = PlacedIn (core zs) (IsStored zs) (numbered zs)

  abbrev PlacedBy : List (TimedEvent n m) → Happens n → ℕ → Type 0
  PlacedBy zs h tick = PlacedIn (core_of h (core zs)) (StoredBy shape zs tick h) (numbered_by zs h tick (numbered zs))

  merged-stored : (tick u p : ℕ) (row : ℕ) → outcome_of shape all row ≡ out.Stored u p → is_merged (ended tick (outcome_of shape all row)) ≡ false
  merged-stored tick u p row is = ap (λ (o : Outcome n). is_merged (ended tick o)) is

  merged-open : (tick row : ℕ) → outcome_of shape all row ≡ out.Unset → is_merged (ended tick (outcome_of shape all row)) ≡ false
  merged-open tick row is = ap (λ (o : Outcome n). is_merged (ended tick o)) is

  module _ (pace : Pace) (e : ℕ) (l : Lawful shape pace e all) where
    -- a write behind which another of its line stands is never merged
    covers : (later zs : List (TimedEvent n m)) → all ≡ later ++ zs → (row line tick : ℕ) → Covered (queue shape (core zs)) row line
        → is_merged (ended tick (outcome_of shape all row)) ≡ false
    covers later zs same row line tick c = by (subst (λ (xs : List (TimedEvent n m)). Covered (queue shape (core xs)) row line ⊎ IsStored xs row) (sym same) (covered_on shape pace e later zs row line (subst (λ (xs : List (TimedEvent n m)). Lawful shape pace e xs) same l) c))
      where
        by : Covered (queue shape (core all)) row line ⊎ IsStored all row → is_merged (ended tick (outcome_of shape all row)) ≡ false
        by (inl still) = merged-open tick row ((opens shape pace e all l).queued row (stands-row (queue shape (core all)) row line (covered-stands (queue shape (core all)) row line still)))
        by (inr stored) = merged-stored tick stored.0 stored.1 row stored.2

    -- what is stored before an event is stored in the end, and was not merged
    stored-ends : (later zs : List (TimedEvent n m)) → all ≡ later ++ zs → (row tick : ℕ) → IsStored zs row → is_merged (ended tick (outcome_of shape all row)) ≡ false
    stored-ends later zs same row tick s =
        merged-stored tick s.0 s.1 row
        (ap (λ xs. outcome_of shape xs row) same
        ∙ stays shape pace e later zs row (subst (λ (xs : List (TimedEvent n m)). Lawful shape pace e xs) same l) (λ un. let k : ◌≡◌ {A = Outcome n} (out.Stored s.0 s.1) out.Unset = sym s.2 ∙ un in absurd (cc)) ∙ s.2)

    merged-by : (w : Numbered n) → (tick : ℕ) × (w.write.outcome ≡ ended tick (outcome_of shape all w.row)) → ((tick : ℕ) → is_merged (ended tick (outcome_of shape all w.row)) ≡ false)
        → is_merged w.write.outcome ≡ false
    merged-by w ends never = ap is_merged ends.1 ∙ never ends.0

    -- one event more
    module _ (later : List (TimedEvent n m)) (x : TimedEvent n m) (zs : List (TimedEvent n m)) (same : all ≡ later ++ x ∷ zs) (here : Lawful shape pace e (x ∷ zs)) (placed : Placed zs) where
      open_zs : AreOpen shape zs
      open_zs = opens shape pace e zs here.1

      apart : RowsApart (queue shape (core zs))
      apart = let b = above_all shape pace e zs here.1 in (stand_apart shape (core zs) b.0 b.1).queued_apart

      before : all ≡ (later ++ x ∷ []) ++ zs
      before = same ∙ sym (append_assoc later (x ∷ []) zs)

      stay : (h : Happens n) → MayCome shape pace e zs x h → (row : ℕ) → IsStored zs row → StoredBy shape zs x.tick h row
      stay h may row s =
          (s.0, s.1, step_stays shape pace e zs x h row here.1 open_zs may (λ un. let k : ◌≡◌ {A = Outcome n} (out.Stored s.0 s.1) out.Unset = sym s.2 ∙ un in absurd (cc)) ∙ s.2)

      standing : Each (λ w. Stands (queue shape (core zs)) w.row w.write.line ⊎ IsStored zs w.row) (numbered zs)
      standing = match-stands (IsStored zs) (queue shape (core zs)) (numbered zs) placed.match

      -- a row that was stored is none of the queue's
      gone-unlike : (old : ℕ) → has_row (queue shape (core zs)) old ≡ true → (row : ℕ) → IsStored zs row → eqb row old ≡ false
      gone-unlike old there row stored = by (eqb row old) refl
        where
          by : (b : Bool) → eqb row old ≡ b → b ≡ false
          by false is = refl
          by true is =
              let unset : outcome_of shape zs row ≡ out.Unset = ap (λ r. outcome_of shape zs r) (eqb-true row old is) ∙ open_zs.queued old there in
              let no : ◌≡◌ {A = Outcome n} (out.Stored stored.0 stored.1) out.Unset = sym stored.2 ∙ unset in
              absurd (cc)

      -- what is known of the event and of what it leaves
      record Known (h : Happens n) : Type 0 where
        may : MayCome shape pace e zs x h
        on : Onwards shape all zs x.tick h
        newest_by : (line : ℕ) → rows.newest (row_with shape all h x.tick x.cancels ++ rows_from shape all zs) line ≡ newest (core_of h (core zs)) line
        covered : (row line tick : ℕ) → Covered (queue shape (core_of h (core zs))) row line → is_merged (ended tick (outcome_of shape all row)) ≡ false

      -- no write fits a new one that is accepted
      none-fit : (at line : ℕ) (bytes : List ℕ) (given : List Bool) → Known (Core (Write at line bytes given wrote.Accepted)) → (w : Numbered n)
          → (Stands (queue shape (core zs)) w.row w.write.line ⊎ IsStored zs w.row) × IsItem (core zs) w → fits line w ≡ false
      none-fit at line bytes given k w is = by is.0
        where
          by : Stands (queue shape (core zs)) w.row w.write.line ⊎ IsStored zs w.row → fits line w ≡ false
          by (inr stored) = and_right (w.write.line == line) _ (merged-by w is.1.ends (λ tick. stored-ends (later ++ x ∷ []) zs before w.row tick stored))
          by (inl stands) = own (w.write.line == line) refl
            where
              own : (b : Bool) → eqb w.write.line line ≡ b → (b && is_merged w.write.outcome) ≡ false
              own true at_line =
                  let its : Stands (queue shape (core zs)) w.row line = subst (λ k. Stands (queue shape (core zs)) w.row k) (eqb-true w.write.line line at_line) stands in
                  merged-by w is.1.ends
                  (λ tick. k.covered w.row line tick (covered-new (queue shape (core zs)) (record { row = at; line = line; bytes = bytes; given = given }) w.row line refl its))
              own false at_line = refl

      -- and only the old one fits a write that is merged into it
      old-fits : (at line old : ℕ) (bytes : List ℕ) (given : List Bool) → Known (Core (Write at line bytes given (wrote.Merged old))) → (w : Numbered n)
          → (Stands (queue shape (core zs)) w.row w.write.line ⊎ IsStored zs w.row) × IsItem (core zs) w → fits line w ≡ eqb w.row old
      old-fits at line old bytes given k w is = by is.0
        where
          there : Stands (queue shape (core zs)) old line
          there = merges-stands shape (core zs) line old k.may.may.2

          by : Stands (queue shape (core zs)) w.row w.write.line ⊎ IsStored zs w.row → fits line w ≡ eqb w.row old
          by (inr stored) =
              and_right (w.write.line == line) _ (merged-by w is.1.ends (λ tick. stored-ends (later ++ x ∷ []) zs before w.row tick stored))
              ∙ sym (gone-unlike old (stands-row (queue shape (core zs)) old line there) w.row stored)
          by (inl stands) = own (eqb w.row old) refl
            where
              other : eqb w.row old ≡ false → (b : Bool) → eqb w.write.line line ≡ b → (b && is_merged w.write.outcome) ≡ false
              other isnt true at_line =
                  let its : Stands (queue shape (core zs)) w.row line = subst (λ k. Stands (queue shape (core zs)) w.row k) (eqb-true w.write.line line at_line) stands in
                  let unlike : (old == w.row) ≡ false = differ_sym w.row old isnt in
                  merged-by w is.1.ends
                  (λ tick. k.covered w.row line tick
                  (covered-merged old at bytes given (queue shape (core zs)) w.row line unlike (merges-covers shape (core zs) line old k.may.may.2 w.row unlike its)))
              other isnt false at_line = refl

              own : (b : Bool) → eqb w.row old ≡ b → fits line w ≡ b
              own true is_old =
                  let row : w.row ≡ old = eqb-true w.row old is_old in
                  let lines : w.write.line ≡ line = stands-one (queue shape (core zs)) old w.write.line line apart (subst (λ r. Stands (queue shape (core zs)) r w.write.line) row stands) there in
                  let becomes : outcome_of shape all w.row ≡ out.Merged x.tick =
                  ap (λ r. outcome_of shape all r) row
                  ∙ k.on.stay old (λ un. let no : ◌≡◌ {A = Outcome n} (out.Merged x.tick) out.Unset = sym (own_row old (out.Merged x.tick) (outcome_of shape zs old)) ∙ un in absurd (cc))
                  ∙ own_row old (out.Merged x.tick) (outcome_of shape zs old) in
                  ap (λ b. b && is_merged w.write.outcome) (eq-eqb w.write.line line lines)
                  ∙ ap is_merged is.1.ends.1 ∙ ap (λ (o : Outcome n). is_merged (ended is.1.ends.0 o)) becomes
              own false isnt = other isnt (w.write.line == line) refl

      -- a write as it comes
      abbrev new-item : (row line : ℕ) (bytes : List ℕ) (given : List Bool) → Numbered n
      new-item row line bytes given = record { row = row; write = coming (rows_from shape all zs) (row_of row x.tick line bytes given) }

      newest-new : (row line : ℕ) (bytes : List ℕ) (given : List Bool) (answer : WriteAnswer) → Known (Core (Write row line bytes given answer))
          → newest (cond (eqb row row) (Write row line bytes given answer ∷ core zs) (up_to row (core zs))) line ≡ rows.newest (row_of row x.tick line bytes given ∷ rows_from shape all zs) line
      newest-new row line bytes given answer k =
          ap (λ b. newest (cond b (Write row line bytes given answer ∷ core zs) (up_to row (core zs))) line) (eq-eqb row row refl) ∙ sym (k.newest_by line)

      accepted-item : (row line : ℕ) (bytes : List ℕ) (given : List Bool) → Known (Core (Write row line bytes given wrote.Accepted))
          → IsItem (Write row line bytes given wrote.Accepted ∷ core zs) (new-item row line bytes given)
      accepted-item row line bytes given k = record {
        ends = (x.tick, refl);
        line = ap (λ b. cond b (Some line) (line_written row (core zs))) (eq-eqb row row refl);
        gives = ap (λ b. cond b (record { bytes = bytes; given = given }) (given_by row (core zs))) (eq-eqb row row refl);
        newest_is = newest-new row line bytes given wrote.Accepted k;
      }

      merged-item : (row line old : ℕ) (bytes : List ℕ) (given : List Bool) → Known (Core (Write row line bytes given (wrote.Merged old))) → (w : Numbered n) → IsItem (core zs) w → w.row ≡ old
          → IsItem (Write row line bytes given (wrote.Merged old) ∷ core zs) (merging_as (new-item row line bytes given) w)
      merged-item row line old bytes given k w is at = record {
        ends = (x.tick, refl);
        line = ap (λ b. cond b (Some line) (line_written row (core zs))) (eq-eqb row row refl);
        gives =
            ap (λ b. cond b (stacked (record { bytes = bytes; given = given }) (given_by old (core zs))) (given_by row (core zs))) (eq-eqb row row refl)
            ∙ ap (λ below. stacked (record { bytes = bytes; given = given }) below) (ap (λ r. given_by r (core zs)) (sym at) ∙ is.gives);
        newest_is = newest-new row line bytes given (wrote.Merged old) k;
      }

      both : Each (λ w. (Stands (queue shape (core zs)) w.row w.write.line ⊎ IsStored zs w.row) × IsItem (core zs) w) (numbered zs)
      both = each-both _ _ (numbered zs) standing placed.each

      -- one that is accepted
      accepts-new : (row line : ℕ) (bytes : List ℕ) (given : List Bool) → Known (Core (Write row line bytes given wrote.Accepted))
          → PlacedIn (Write row line bytes given wrote.Accepted ∷ core zs) (StoredBy shape zs x.tick (Core (Write row line bytes given wrote.Accepted))) (put (new-item row line bytes given) (numbered zs))
      accepts-new row line bytes given k =
          let none = each-map _ (λ w. fits line w ≡ false) (none-fit row line bytes given k) (numbered zs) both in
          record {
            each =
                each-accepted (λ w. IsItem (core zs) w) (λ w. IsItem (Write row line bytes given wrote.Accepted ∷ core zs) w)
                (item-behind (core zs) row line bytes given wrote.Accepted k.may.asked) (new-item row line bytes given) (numbered zs) none (accepted-item row line bytes given k) placed.each;
            match =
                match-accepted (IsStored zs) (StoredBy shape zs x.tick (Core (Write row line bytes given wrote.Accepted))) (stay (Core (Write row line bytes given wrote.Accepted)) k.may)
                (queue shape (core zs)) (numbered zs) (record { row = row; line = line; bytes = bytes; given = given }) (new-item row line bytes given) refl refl none placed.match;
          }

      -- one that is merged
      merges-new : (row line old : ℕ) (bytes : List ℕ) (given : List Bool) → Known (Core (Write row line bytes given (wrote.Merged old)))
          → PlacedIn (Write row line bytes given (wrote.Merged old) ∷ core zs) (StoredBy shape zs x.tick (Core (Write row line bytes given (wrote.Merged old)))) (put (new-item row line bytes given) (numbered zs))
      merges-new row line old bytes given k =
          let only = each-map _ (λ w. fits line w ≡ eqb w.row old) (old-fits row line old bytes given k) (numbered zs) both in
          let stands = merges-stands shape (core zs) line old k.may.may.2 in
          let there = stands-row (queue shape (core zs)) old line stands in
          record {
            each =
                each-merged (λ w. IsItem (core zs) w) (λ w. IsItem (Write row line bytes given (wrote.Merged old) ∷ core zs) w)
                (item-behind (core zs) row line bytes given (wrote.Merged old) k.may.asked) (new-item row line bytes given) (IsStored zs) old (gone-unlike old there)
                (merged-item row line old bytes given k) (queue shape (core zs)) (numbered zs) only there placed.match placed.each;
            match =
                match-merged (IsStored zs) (StoredBy shape zs x.tick (Core (Write row line bytes given (wrote.Merged old)))) (stay (Core (Write row line bytes given (wrote.Merged old))) k.may)
                (new-item row line bytes given) old bytes given (gone-unlike old there) (queue shape (core zs)) (numbered zs) only stands placed.match;
          }

      -- the head is stored
      stores-head : (h : Happens n) (row place : ℕ) → MayCome shape pace e zs x h → IsHead (queue shape (core zs)) row
          → StoredBy shape zs x.tick h row → (q : List (Entry n)) → queue shape (core zs) ≡ q
          → Match (StoredBy shape zs x.tick h) (drop 1 q) (numbered zs)
      stores-head h row place may head goes [] is = absurd (subst (λ (q : List (Entry n)). IsHead q row) is head)
      stores-head h row place may head goes (f ∷ es) is =
          match-drop (IsStored zs) (StoredBy shape zs x.tick h) (stay h may) f es (numbered zs)
          (subst (λ r. StoredBy shape zs x.tick h r) (subst (λ (q : List (Entry n)). IsHead q row) is head) goes)
          (subst (λ (q : List (Entry n)). Match (IsStored zs) q (numbered zs)) is placed.match)

      agrees : (row line : ℕ) (bytes : List ℕ) (given : List Bool) (answer : WriteAnswer) → Known (Core (Write row line bytes given answer))
          → accepts (ended x.tick (outcome_of shape all row)) ≡ accepting answer
      agrees row line bytes given answer k =
          outcome-accepts x.tick answer (ended x.tick (outcome_of shape all row)) (write_outcome shape pace e all zs x row line bytes given answer (opens shape pace e all l) k.may k.on)

      -- a refused write, and any other event, changes nothing of the writes
      refuses : (row line : ℕ) (bytes : List ℕ) (given : List Bool) (answer : WriteAnswer) → Known (Core (Write row line bytes given answer))
          → queue shape (Write row line bytes given answer ∷ core zs) ≡ queue shape (core zs)
          → PlacedIn (Write row line bytes given answer ∷ core zs) (StoredBy shape zs x.tick (Core (Write row line bytes given answer))) (numbered zs)
      refuses row line bytes given answer k same = record {
        each = each-map (λ w. IsItem (core zs) w) (λ w. IsItem (Write row line bytes given answer ∷ core zs) w) (item-behind (core zs) row line bytes given answer k.may.asked) (numbered zs) placed.each;
        match =
            subst (λ (q : List (Entry n)). Match (StoredBy shape zs x.tick (Core (Write row line bytes given answer))) q (numbered zs)) (sym same)
            (match-stays (IsStored zs) (StoredBy shape zs x.tick (Core (Write row line bytes given answer))) (stay (Core (Write row line bytes given answer)) k.may) (queue shape (core zs)) (numbered zs) placed.match);
      }

      others : (event : BankEvent n) → NoWrite event → Each (λ w. IsItem (event ∷ core zs) w) (numbered zs)
      others event none = each-map (λ w. IsItem (core zs) w) (λ w. IsItem (event ∷ core zs) w) (item-over (core zs) event none) (numbered zs) placed.each

      still : (h : Happens n) → MayCome shape pace e zs x h → Match (StoredBy shape zs x.tick h) (queue shape (core zs)) (numbered zs)
      still h may = match-stays (IsStored zs) (StoredBy shape zs x.tick h) (stay h may) (queue shape (core zs)) (numbered zs) placed.match

      begins : (h : Happens n) → MayCome shape pace e zs x h → Match (StoredBy shape zs x.tick h) (begun (due_after shape (core zs)) (newest (core zs)) (queue shape (core zs))) (numbered zs)
      begins h may =
          match-begun (IsStored zs) (StoredBy shape zs x.tick h) (stay h may) (due_after shape (core zs)) (newest (core zs)) (queue shape (core zs)) (numbered zs) placed.match

      step : (h : Happens n) → Known h → PlacedBy zs h x.tick
      step (Core (Write row line bytes given wrote.Accepted)) k =
          subst (λ b. PlacedIn (Write row line bytes given wrote.Accepted ∷ core zs) (StoredBy shape zs x.tick (Core (Write row line bytes given wrote.Accepted)))
          (cond b (put (new-item row line bytes given) (numbered zs)) (numbered zs)))
          (sym (agrees row line bytes given wrote.Accepted k)) (accepts-new row line bytes given k)
      step (Core (Write row line bytes given (wrote.Merged old))) k =
          subst (λ b. PlacedIn (Write row line bytes given (wrote.Merged old) ∷ core zs) (StoredBy shape zs x.tick (Core (Write row line bytes given (wrote.Merged old))))
          (cond b (put (new-item row line bytes given) (numbered zs)) (numbered zs)))
          (sym (agrees row line bytes given (wrote.Merged old) k)) (merges-new row line old bytes given k)
      step (Core (Write row line bytes given wrote.Full)) k =
          subst (λ b. PlacedIn (Write row line bytes given wrote.Full ∷ core zs) (StoredBy shape zs x.tick (Core (Write row line bytes given wrote.Full)))
          (cond b (put (new-item row line bytes given) (numbered zs)) (numbered zs)))
          (sym (agrees row line bytes given wrote.Full k)) (refuses row line bytes given wrote.Full k refl)
      step (Core (Write row line bytes given wrote.Exhausted)) k =
          subst (λ b. PlacedIn (Write row line bytes given wrote.Exhausted ∷ core zs) (StoredBy shape zs x.tick (Core (Write row line bytes given wrote.Exhausted)))
          (cond b (put (new-item row line bytes given) (numbered zs)) (numbered zs)))
          (sym (agrees row line bytes given wrote.Exhausted k)) (refuses row line bytes given wrote.Exhausted k refl)
      step (Core (Begin (did.Stored row place))) k = record {
        each = others (Begin (did.Stored row place)) tt;
        match = stores-head (Core (Begin (did.Stored row place))) row place k.may (stored-head shape (core zs) row place k.may.may.1)
            (x.tick, place, own_row row (out.Stored x.tick place) (outcome_of shape zs row)) (queue shape (core zs)) refl;
      }
      step (Core (Begin answer)) k = record { each = others (Begin answer) tt; match = begins (Core (Begin answer)) k.may }
      step (Core (Iterate (did.Stored row place))) k = record {
        each = others (Iterate (did.Stored row place)) tt;
        match = stores-head (Core (Iterate (did.Stored row place))) row place k.may (stored-head shape (core zs) row place k.may.may.1)
            (x.tick, place, own_row row (out.Stored x.tick place) (outcome_of shape zs row)) (queue shape (core zs)) refl;
      }
      step (Core event) k = record { each = others event tt; match = still (Core event) k.may }
      step (Regs event) k = record { each = placed.each; match = still (Regs event) k.may }

      known : Known x.happens
      known = record {
        may = here.0;
        on = onwards_at shape pace e all later x zs l same;
        newest_by = λ line. newest_same shape pace e all later (x ∷ zs) line l (opens shape pace e all l) same;
        covered = λ row line tick c. covers later (x ∷ zs) same row line tick c;
      }

    placed : (later zs : List (TimedEvent n m)) → all ≡ later ++ zs → Placed zs
    placed later [] same = record { each = tt; match = refl }
    placed later (x ∷ zs) same =
        let here : Lawful shape pace e (x ∷ zs) = lawful_before shape pace e later (x ∷ zs) (subst (λ (xs : List (TimedEvent n m)). Lawful shape pace e xs) same l) in
        let was = placed (later ++ x ∷ []) zs (same ∙ sym (append_assoc later (x ∷ []) zs)) in
        let now = step later x zs same here was x.happens (known later x zs same here was) in
        record { each = now.each; match = now.match }

    -- In the end

    -- an entry, and a write by its order, are of one line; and what the entry's own writes give, and the newest bytes of its line as the
    -- last of them came, are those of the write
    pub record IsAlike (entry : Entry n) (w : QueuedWrite n) : Type 0 where
      line : entry.line ≡ w.line
      gives : given_by entry.row (core all) ≡ w.gives
      newest_is : newest (up_to entry.row (core all)) entry.line ≡ w.newest

    abbrev pub Alike : List (Entry n) → List (QueuedWrite n) → Type 0
    Alike [] [] = Unit {0}
    Alike [] (w ∷ ws) = ⊥
    Alike (entry ∷ es) [] = ⊥
    Alike (entry ∷ es) (w ∷ ws) = IsAlike entry w × Alike es ws

    queued-stored : (row : ℕ) (w : Numbered n) → IsItem (core all) w → IsStored all w.row → is_queued w.write.outcome ≡ false
    queued-stored row w is stored = ap is_queued (is.ends.1 ∙ ap (λ (o : Outcome n). ended is.ends.0 o) stored.2)

    queued-there : (w : Numbered n) → IsItem (core all) w → has_row (queue shape (core all)) w.row ≡ true → is_queued w.write.outcome ≡ true
    queued-there w is there = ap is_queued (is.ends.1 ∙ ap (λ (o : Outcome n). ended is.ends.0 o) ((opens shape pace e all l).queued w.row there))

    alike : (es : List (Entry n)) (ws : List (Numbered n)) → ((row : ℕ) → has_row es row ≡ true → has_row (queue shape (core all)) row ≡ true)
        → Each (λ w. IsItem (core all) w) ws → Match (IsStored all) es ws → Alike es (filter (λ w. is_queued w.outcome) (writes ws))
    alike es [] among each m = subst (λ (q : List (Entry n)). Alike q []) (sym m) tt
    alike es (w ∷ ws) among each (inl m) =
        subst (λ b. Alike es (cond b (w.write ∷ filter (λ w. is_queued w.outcome) (writes ws)) (filter (λ w. is_queued w.outcome) (writes ws)))) (sym (queued-stored w.row w each.0 m.0))
        (alike es ws among each.1 m.1)
    alike es (w ∷ ws) among each (inr m) =
        let first : has_row (m.0 ∷ m.1) w.row ≡ true = ap (λ b. b || has_row m.1 w.row) (eq-eqb m.0.row w.row m.3) in
        let there : has_row (queue shape (core all)) w.row ≡ true = among w.row (ap (λ (q : List (Entry n)). has_row q w.row) m.2 ∙ first) in
        subst (λ b. Alike es (cond b (w.write ∷ filter (λ w. is_queued w.outcome) (writes ws)) (filter (λ w. is_queued w.outcome) (writes ws)))) (sym (queued-there w each.0 there))
        (subst (λ (q : List (Entry n)). Alike q (w.write ∷ filter (λ w. is_queued w.outcome) (writes ws))) (sym m.2) (
          record {
            line = m.4;
            gives = ap (λ r. given_by r (core all)) m.3 ∙ each.0.gives;
            newest_is = ap (λ r. newest (up_to r (core all)) m.0.line) m.3 ∙ ap (λ k. newest (up_to w.row (core all)) k) m.4 ∙ each.0.newest_is;
          },
          alike m.1 ws (λ row t. among row (ap (λ (q : List (Entry n)). has_row q row) m.2 ∙ or_right (m.0.row == row) (has_row m.1 row) t)) each.1 m.5,
        ))

    pub queue-alike : Alike (queue shape (core all)) (queued_writes (table_of shape all))
    queue-alike =
        let p = placed [] all refl in
        subst (λ (ws : List (QueuedWrite n)). Alike (queue shape (core all)) (filter (λ w. is_queued w.outcome) ws)) (numbered-rows all)
        (alike (queue shape (core all)) (numbered all) (λ row there. there) p.each p.match)

    -- another is of the first one's line where another entry is of the head's
    lines-alike : (es : List (Entry n)) (ws : List (QueuedWrite n)) (line : ℕ) → Alike es ws → list_any (λ other. other.line == line) ws ≡ has_line es line
    lines-alike [] [] line a = refl
    lines-alike [] (w ∷ ws) line a = absurd a
    lines-alike (entry ∷ es) [] line a = absurd a
    lines-alike (entry ∷ es) (w ∷ ws) line a =
        ap (λ k. k == line || list_any (λ other. other.line == line) ws) (sym a.0.line) ∙ ap (λ b. entry.line == line || b) (lines-alike es ws line a.1)

    pub first-again : (es : List (Entry n)) (ws : List (QueuedWrite n)) (begun : Bool) → Alike es ws → Again es begun → first_again ws ≡ true → begun ≡ true
    first-again [] [] begun a again is = absurd (cc)
    first-again [] (w ∷ ws) begun a again is = absurd a
    first-again (entry ∷ es) [] begun a again is = absurd a
    first-again (entry ∷ es) (w ∷ ws) begun a again is = again (sym (lines-alike es ws entry.line a.1) ∙ ap (λ k. list_any (λ other. other.line == k) ws) a.0.line ∙ is)

    -- so the entries are those by the rows
    same-given : (entry : Entry n) (w : QueuedWrite n) → IsAlike entry w → IsOwn (line_written entry.row (core all)) (given_by entry.row (core all)) false entry
        → queue_entry entry ≡ entry_by false w
    same-given entry w is own =
        ap (λ (g : Layer). record { line = entry.line; gives = g }) (own.gives ∙ is.gives) ∙ ap (λ (k : ℕ). record { line = k; gives = w.gives }) is.line

    same-whole : (entry : Entry n) (w : QueuedWrite n) → IsAlike entry w → IsOwn (line_written entry.row (core all)) (given_by entry.row (core all)) true entry
        → entry.bytes ≡ newest (up_to entry.row (core all)) entry.line → queue_entry entry ≡ entry_by true w
    same-whole entry w is own whole =
        ap (λ (k : ℕ). record { line = k; gives = record { bytes = entry.bytes; given = entry.given } }) is.line
        ∙ ap (λ (bytes : List ℕ). record { line = w.line; gives = record { bytes = bytes; given = entry.given } }) (whole ∙ is.newest_is)
        ∙ ap (λ (given : List Bool). record { line = w.line; gives = record { bytes = w.newest; given = given } }) (all_given-gives_all n entry.given own.given own.gives.0)

    rest-same : (es : List (Entry n)) (ws : List (QueuedWrite n)) → Alike es ws → EachOwn (λ row. line_written row (core all)) (λ row. given_by row (core all)) es
        → map queue_entry es ≡ map (entry_by false) ws
    rest-same [] [] a own = refl
    rest-same [] (w ∷ ws) a own = absurd a
    rest-same (entry ∷ es) [] a own = absurd a
    rest-same (entry ∷ es) (w ∷ ws) a own =
        ap (λ (first : QueueEntry). first ∷ map queue_entry es) (same-given entry w a.0 own.0) ∙ ap (λ rest. entry_by false w ∷ rest) (rest-same es ws a.1 own.1)

    all-same : (whole : Bool) (es : List (Entry n)) (ws : List (QueuedWrite n)) → Alike es ws → AreOwn (λ row. line_written row (core all)) (λ row. given_by row (core all)) whole es
        → (whole ≡ true → HeadWhole shape (core all) es) → map queue_entry es ≡ entries_by whole ws
    all-same whole [] [] a own head = refl
    all-same whole [] (w ∷ ws) a own head = absurd a
    all-same whole (entry ∷ es) [] a own head = absurd a
    all-same true (entry ∷ es) (w ∷ ws) a own head =
        ap (λ (first : QueueEntry). first ∷ map queue_entry es) (same-whole entry w a.0 own.0 (head refl)) ∙ ap (λ rest. entry_by true w ∷ rest) (rest-same es ws a.1 own.1)
    all-same false (entry ∷ es) (w ∷ ws) a own head =
        ap (λ (first : QueueEntry). first ∷ map queue_entry es) (same-given entry w a.0 own.0) ∙ ap (λ rest. entry_by false w ∷ rest) (rest-same es ws a.1 own.1)

    pub queue-by_rows : map queue_entry (queue shape (core all)) ≡ entries_by (is_head_begun shape (core all)) (queued_writes (table_of shape all))
    queue-by_rows =
        let b = above_all shape pace e all l in
        let may = may_all shape pace e all l in
        all-same (is_head_begun shape (core all)) (queue shape (core all)) (queued_writes (table_of shape all)) queue-alike
        (queue-own shape (most_steps e) (core all) b.0 may b.1) (head-whole shape (most_steps e) (core all) b.0 may b.1)

    -- a store was begun only where a write is queued
    pub begun-some : is_head_begun shape (core all) ≡ true → queued_writes (table_of shape all) ≡ [] → ⊥
    begun-some is none =
        let b = above_all shape pace e all l in
        by (queue shape (core all)) (subst (λ (ws : List (QueuedWrite n)). Alike (queue shape (core all)) ws) none queue-alike)
        (subst (λ (whole : Bool). AreOwn (λ row. line_written row (core all)) (λ row. given_by row (core all)) whole (queue shape (core all))) is
        (queue-own shape (most_steps e) (core all) b.0 (may_all shape pace e all l) b.1))
      where
        by : (es : List (Entry n)) → Alike es [] → AreOwn (λ row. line_written row (core all)) (λ row. given_by row (core all)) true es → ⊥
        by [] a own = cc own
        by (entry ∷ es) a own = a

    -- and where one is queued the queue has a first entry
    pub queue-first : (queued_writes (table_of shape all) ≡ [] → ⊥) → (row : ℕ) × (has_row (queue shape (core all)) row ≡ true)
    queue-first some = by (queue shape (core all)) (queued_writes (table_of shape all)) queue-alike some
      where
        by : (es : List (Entry n)) (ws : List (QueuedWrite n)) → Alike es ws → (ws ≡ [] → ⊥) → (row : ℕ) × (has_row es row ≡ true)
        by [] [] a some = absurd (some refl)
        by [] (w ∷ ws) a some = absurd a
        by (entry ∷ es) ws a some = (entry.row, ap (λ b. b || has_row es entry.row) (eq-eqb entry.row entry.row refl))
