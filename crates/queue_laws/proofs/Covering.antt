-- Over a lawful history the queue gives of each line what its accepted writes behind the last stored one give, and a completed head more.
use Rattle.std.proofs.Common.{◌≡◌, ℕ, ◌<◌, ◌≤◌, ◌==◌, ◌⊎◌, inl, inr, Bool, true, false, suc, List, [], ◌∷◌, ◌++◌, Some, None, drop, refl, sym, ap, ◌∙◌, subst, arith, cond, eqb, eqb-true}
use Rattle.std.{specs.Prelude.unwrap_or, proofs.lemmas.Bool.{eq-eqb, ne_eqb}}
use Rattle.masked_bytes.specs.{Entries.{RowsApart, has_row, candidate, merged}, Masked.{joined, none_given, gives_all}, declared.entry.Entry.Entry}
use Rattle.masked_bytes.proofs.{Queueing.candidate-newest, Truth.{and_first, and_second}}
use Rattle.result_rows.specs.declared.Outcome.{Outcome}
use Rattle.result_rows.specs.declared.Outcome.TheVariants as out
use Rattle.row_rules.specs.Answers.{is_stored}
use Rattle.bank_shape.specs.{declared.BankShape.BankShape, declared.answer.Step.Step, declared.answer.WriteAnswer.WriteAnswer, declared.pace.Pace.Pace}
use Rattle.bank_shape.specs.declared.answer.WriteAnswer.TheVariants as wrote
use Rattle.bank_shape.specs.declared.answer.ReadAnswer.TheVariants as came
use Rattle.bank_shape.specs.declared.answer.Step.TheVariants as did
use Rattle.bank_model.specs.{Answers.head_busy_after, Events.{Write, Begin, Iterate, RowsBelow, newest}, History.{begun, queue, due_after, has_exhausted, in_progress}}
use Rattle.bank_model.specs.{Lawful.{Lawful, MayCome}, Sensing.most_steps, Timing.{Happens, Core, TimedEvent, core, core_of}, Told.tick_of_row}
use Rattle.bank_laws.{specs.Outcomes.{on_row, outcome_with, outcome_of}, specs.Pairs.ArePaired, proofs.Answering.{IsHead, stored-head}}
use Rattle.bank_laws.proofs.{Asked.{Wrote, wrote-one, pushed-stands, merged-stands, begun-stands}, Ending.accepting, Entries.{either, differ}}
use Rattle.bank_laws.proofs.Lines.{Stands, stands-one, merged-candidate, merges-stands}
use Rattle.bank_laws.proofs.{Pairs.{AllLong, HeadFull, KeepsPairs, keeps_pairs, busy-full, no_candidate-head, accepted-none}, Pending.{queue-asked, writes_in, writes-fall}}
use Rattle.bank_laws.proofs.{Settling.{opens, above_all, step_stays}, Standing.stand_apart, Waiting.may_all}
use Rattle.queue_laws.proofs.Floors.{since, floor_of, since-none, since-joins, since-other, floor-bound, floor-agree, floor-above, floor-own, floor-new, stored-agree}
use Rattle.queue_laws.proofs.Order.{Leads, InOrder, in_order, below_among}
use Rattle.queue_laws.proofs.Showing.{Front, Tails, front-same, tails-same, front-push, tails-push, front-merged, tails-merged, front-push_other, tails-push_other}
use Rattle.queue_laws.proofs.Showing.{front-merged_other, tails-merged_other, front-begun, tails-begun, front-stored, front-stored_other}

module _ {n : ℕ} where
  -- an event stores nothing
  abbrev pub Storeless : Happens n → Type 0
  Storeless (Core (Begin (did.Stored row place))) = ⊥
  Storeless (Core (Iterate (did.Stored row place))) = ⊥
  Storeless _ = Unit {0}

module _ {n m : ℕ} (shape : BankShape) where
  -- what the queue gives of each line, by the writes of the line and the outcomes so far
  pub record IsCovered (zs : List (TimedEvent n m)) : Type 0 where
    pub front : (line : ℕ) → Front (λ f. since (core zs) line f) (floor_of (outcome_of shape zs) (core zs) line) line (queue shape (core zs))
    pub tails : (line : ℕ) → Tails (λ f. since (core zs) line f) line (queue shape (core zs))
    pub above : (row line : ℕ) → Stands (queue shape (core zs)) row line → floor_of (outcome_of shape zs) (core zs) line ≤ row
    pub asked : (row line : ℕ) → Stands (queue shape (core zs)) row line → Wrote (core zs) row line

  record CoveredBy (zs : List (TimedEvent n m)) (tick : ℕ) (h : Happens n) : Type 0 where
    front : (line : ℕ) → Front (λ f. since (core_of h (core zs)) line f) (floor_of (λ row. unwrap_or (outcome_with shape zs h tick row) (outcome_of shape zs row)) (core_of h (core zs)) line) line (queue shape (core_of h (core zs)))
    tails : (line : ℕ) → Tails (λ f. since (core_of h (core zs)) line f) line (queue shape (core_of h (core zs)))
    above : (row line : ℕ) → Stands (queue shape (core_of h (core zs))) row line → floor_of (λ row. unwrap_or (outcome_with shape zs h tick row) (outcome_of shape zs row)) (core_of h (core zs)) line ≤ row
    asked : (row line : ℕ) → Stands (queue shape (core_of h (core zs))) row line → Wrote (core_of h (core zs)) row line

module _ {n m : ℕ} (shape : BankShape) (pace : Pace) (e : ℕ) where
  pub none_new : (zs : List (TimedEvent n m)) (x : TimedEvent n m) (h : Happens n) (row u p : ℕ) → Storeless h → unwrap_or (outcome_with shape zs h x.tick row) (outcome_of shape zs row) ≡ out.Stored u p → outcome_of shape zs row ≡ out.Stored u p
  none_new zs x h row u p less s = grind arith

  module _ (zs : List (TimedEvent n m)) (x : TimedEvent n m) (r : 1 ≤ pace.read) (i : 1 ≤ pace.iter) (l : Lawful shape pace e zs) (c : IsCovered shape zs) where
    pairs : KeepsPairs shape (core zs)
    pairs = keeps_pairs shape (most_steps e) (core zs) (may_all shape pace e zs l)

    order : InOrder shape pace e zs
    order = in_order shape pace e zs r i l

    flag : (h : Happens n) (row : ℕ) → MayCome shape pace e zs x h → Storeless h → is_stored (unwrap_or (outcome_with shape zs h x.tick row) (outcome_of shape zs row)) ≡ is_stored (outcome_of shape zs row)
    flag h row may less =
        stored-agree (outcome_of shape zs row) (unwrap_or (outcome_with shape zs h x.tick row) (outcome_of shape zs row)) (λ u p s. none_new zs x h row u p less s)
        (λ u p s. step_stays shape pace e zs x h row l (opens shape pace e zs l) may (λ un. let both : ◌≡◌ {A = Outcome n} (out.Stored u p) out.Unset = sym s ∙ un in absurd (cc)) ∙ s)

    -- the floor is as before, where nothing is stored
    same_floor : (h : Happens n) (line : ℕ) → MayCome shape pace e zs x h → Storeless h
        → floor_of (λ row. unwrap_or (outcome_with shape zs h x.tick row) (outcome_of shape zs row)) (core zs) line ≡ floor_of (outcome_of shape zs) (core zs) line
    same_floor h line may less =
        floor-agree (outcome_of shape zs) (λ row. unwrap_or (outcome_with shape zs h x.tick row) (outcome_of shape zs row)) (core zs) line (λ row k a is. flag h row may less)

    new_floor : (at k : ℕ) (bytes : List ℕ) (given : List Bool) (answer : WriteAnswer) (line : ℕ) → MayCome shape pace e zs x (Core (Write at k bytes given answer)) → Storeless {n = n} (Core (Write at k bytes given answer))
        → floor_of (λ row. unwrap_or (outcome_with shape zs (Core (Write at k bytes given answer)) x.tick row) (outcome_of shape zs row)) (Write at k bytes given answer ∷ core zs) line ≡ floor_of (outcome_of shape zs) (core zs) line
    new_floor at k bytes given answer line may less =
        floor-new (λ row. unwrap_or (outcome_with shape zs (Core (Write at k bytes given answer)) x.tick row) (outcome_of shape zs row)) (core zs) at k line
        (flag (Core (Write at k bytes given answer)) at may less ∙ ap is_stored ((opens shape pace e zs l).coming at may.asked))
        ∙ same_floor (Core (Write at k bytes given answer)) line may less

    -- an event that changes no queue and writes nothing
    quiet : (h : Happens n) → MayCome shape pace e zs x h → Storeless h
        → ((line f : ℕ) → since (core_of h (core zs)) line f ≡ since (core zs) line f)
        → ((line : ℕ) → floor_of (λ row. unwrap_or (outcome_with shape zs h x.tick row) (outcome_of shape zs row)) (core_of h (core zs)) line ≡ floor_of (outcome_of shape zs) (core zs) line)
        → ((row line : ℕ) → Wrote (core zs) row line → Wrote (core_of h (core zs)) row line) → queue shape (core_of h (core zs)) ≡ queue shape (core zs) → CoveredBy shape zs x.tick h
    quiet h may less gives floors asks same = record {
      front = λ line. subst (λ (es : List (Entry n)). Front (λ f. since (core_of h (core zs)) line f) (floor_of (λ row. unwrap_or (outcome_with shape zs h x.tick row) (outcome_of shape zs row)) (core_of h (core zs)) line) line es) (sym same)
          (front-same (λ f. since (core zs) line f) (λ f. since (core_of h (core zs)) line f) (floor_of (outcome_of shape zs) (core zs) line)
          (floor_of (λ row. unwrap_or (outcome_with shape zs h x.tick row) (outcome_of shape zs row)) (core_of h (core zs)) line) line (queue shape (core zs))
          (gives line _ ∙ ap (λ f. since (core zs) line f) (floors line)) (c.front line));
      tails = λ line. subst (λ (es : List (Entry n)). Tails (λ f. since (core_of h (core zs)) line f) line es) (sym same) (tails-same (λ f. since (core zs) line f) (λ f. since (core_of h (core zs)) line f) line (queue shape (core zs)) (gives line) (c.tails line));
      above = λ row line s.
          let before : floor_of (outcome_of shape zs) (core zs) line ≤ row = c.above row line (subst (λ (es : List (Entry n)). Stands es row line) same s) in
          subst (λ k. k ≤ row) (sym (floors line)) before;
      asked = λ row line s. asks row line (c.asked row line (subst (λ (es : List (Entry n)). Stands es row line) same s));
    }

    -- Writes

    module _ (at k : ℕ) (bytes : List ℕ) (given : List Bool) (answer : WriteAnswer) (may : MayCome shape pace e zs x (Core (Write at k bytes given answer))) (acc : accepting answer ≡ true) where
      joins : (line : ℕ) → (k == line) ≡ true → (f : ℕ) → f ≤ at → since (Write at k bytes given answer ∷ core zs) line f ≡ joined given (since (core zs) line f)
      joins line is f le = since-joins given (since (core zs) line f) (accepting answer) k at line f acc is le

      last : (line : ℕ) → since (Write at k bytes given answer ∷ core zs) line (suc at) ≡ none_given n
      last line = since-none (Write at k bytes given answer ∷ core zs) (suc at) line (suc at) (omega arith, may.asked) (omega arith)

      others : (line : ℕ) → (k == line) ≡ false → (f : ℕ) → since (Write at k bytes given answer ∷ core zs) line f ≡ since (core zs) line f
      others line ne f = since-other given (since (core zs) line f) (accepting answer) k at line f ne

      low : (line : ℕ) → floor_of (outcome_of shape zs) (core zs) line ≤ at
      low line = floor-bound (outcome_of shape zs) (core zs) at line may.asked

      below : (row : ℕ) → has_row (queue shape (core zs)) row ≡ true → row < at
      below row there = below_among (writes_in zs) at row (writes-fall zs at may.asked) (queue-asked shape zs row there)

    busy_head : (k line : ℕ) → candidate (head_busy_after shape (core zs)) (queue shape (core zs)) k ≡ None → (k == line) ≡ true → (f : Entry n) (rest : List (Entry n)) → queue shape (core zs) ≡ f ∷ rest → (f.line == line) ≡ true
        → gives_all f.given ≡ true
    busy_head k line none own f rest is his =
        let same : k ≡ f.line = eqb-true k line own ∙ sym (eqb-true f.line line his) in
        let found : candidate (head_busy_after shape (core zs)) (f ∷ rest) k ≡ None = subst (λ (es : List (Entry n)). candidate (head_busy_after shape (core zs)) es k ≡ None) is none in
        let busy : head_busy_after shape (core zs) ≡ true = no_candidate-head (head_busy_after shape (core zs)) f rest k found (eq-eqb k f.line same) in
        let full : HeadFull (queue shape (core zs)) =
        busy-full shape (core zs) (has_exhausted (core zs)) (due_after shape (core zs)) (queue shape (core zs)) (pairs.working (and_first (in_progress (core zs)) _ busy)) (and_second (in_progress (core zs)) _ busy) in
        subst (λ (es : List (Entry n)). HeadFull es) is full

    accepted : (at k : ℕ) (bytes : List ℕ) (given : List Bool) → MayCome shape pace e zs x (Core (Write at k bytes given wrote.Accepted)) → CoveredBy shape zs x.tick (Core (Write at k bytes given wrote.Accepted))
    accepted at k bytes given may = record {
      front = λ line. front-same (λ f. since (Write at k bytes given wrote.Accepted ∷ core zs) line f) (λ f. since (Write at k bytes given wrote.Accepted ∷ core zs) line f) (floor_of (outcome_of shape zs) (core zs) line) _ line
          (queue shape (core zs) ++ own ∷ []) (ap (λ f. since (Write at k bytes given wrote.Accepted ∷ core zs) line f) (new_floor at k bytes given wrote.Accepted line may tt)) (fronts line (eqb k line) refl);
      tails = λ line. tailed line (eqb k line) refl;
      above = λ row line s. subst (λ f. f ≤ row) (sym (new_floor at k bytes given wrote.Accepted line may tt)) (up row line (pushed-stands (queue shape (core zs)) own row line s));
      asked = λ row line s. ask row line (pushed-stands (queue shape (core zs)) own row line s);
    }
      where
        own : Entry n
        own = record { row = at; line = k; bytes = bytes; given = given }

        fronts : (line : ℕ) (b : Bool) → eqb k line ≡ b → Front (λ f. since (Write at k bytes given wrote.Accepted ∷ core zs) line f) (floor_of (outcome_of shape zs) (core zs) line) line (queue shape (core zs) ++ own ∷ [])
        fronts line true is =
            front-push (λ f. since (core zs) line f) (λ f. since (Write at k bytes given wrote.Accepted ∷ core zs) line f) at line given may.may.1.given_len (joins at k bytes given wrote.Accepted may refl line is)
            (last at k bytes given wrote.Accepted may refl line) (floor_of (outcome_of shape zs) (core zs) line) (queue shape (core zs)) own pairs.long refl is (low at k bytes given wrote.Accepted may refl line)
            (busy_head k line (accepted-none shape (core zs) k may.may.2) is) (c.front line)
        fronts line false ne =
            front-same (λ f. since (core zs) line f) (λ f. since (Write at k bytes given wrote.Accepted ∷ core zs) line f) (floor_of (outcome_of shape zs) (core zs) line) (floor_of (outcome_of shape zs) (core zs) line) line (queue shape (core zs) ++ own ∷ [])
            (others at k bytes given wrote.Accepted may refl line ne (floor_of (outcome_of shape zs) (core zs) line))
            (front-push_other (λ f. since (core zs) line f) line (floor_of (outcome_of shape zs) (core zs) line) (queue shape (core zs)) own ne (c.front line))

        tailed : (line : ℕ) (b : Bool) → eqb k line ≡ b → Tails (λ f. since (Write at k bytes given wrote.Accepted ∷ core zs) line f) line (queue shape (core zs) ++ own ∷ [])
        tailed line true is =
            tails-push (λ f. since (core zs) line f) (λ f. since (Write at k bytes given wrote.Accepted ∷ core zs) line f) at line given may.may.1.given_len (joins at k bytes given wrote.Accepted may refl line is)
            (last at k bytes given wrote.Accepted may refl line) (queue shape (core zs)) own pairs.long refl refl is (below at k bytes given wrote.Accepted may refl) (c.tails line)
        tailed line false ne =
            tails-same (λ f. since (core zs) line f) (λ f. since (Write at k bytes given wrote.Accepted ∷ core zs) line f) line (queue shape (core zs) ++ own ∷ []) (others at k bytes given wrote.Accepted may refl line ne)
            (tails-push_other (λ f. since (core zs) line f) line (queue shape (core zs)) own ne (c.tails line))

        up : (row line : ℕ) → Stands (queue shape (core zs)) row line ⊎ ((at ≡ row) × (k ≡ line)) → floor_of (outcome_of shape zs) (core zs) line ≤ row
        up row line (inl s) = c.above row line s
        up row line (inr s) = let le : floor_of (outcome_of shape zs) (core zs) line ≤ at = low at k bytes given wrote.Accepted may refl line in omega (arith, le, s.0)

        ask : (row line : ℕ) → Stands (queue shape (core zs)) row line ⊎ ((at ≡ row) × (k ≡ line)) → Wrote (Write at k bytes given wrote.Accepted ∷ core zs) row line
        ask row line (inl s) = inr (c.asked row line s)
        ask row line (inr s) = inl s

    merges : (at k old : ℕ) (bytes : List ℕ) (given : List Bool) → MayCome shape pace e zs x (Core (Write at k bytes given (wrote.Merged old))) → CoveredBy shape zs x.tick (Core (Write at k bytes given (wrote.Merged old)))
    merges at k old bytes given may = record {
      front = λ line. front-same (λ f. since (Write at k bytes given (wrote.Merged old) ∷ core zs) line f) (λ f. since (Write at k bytes given (wrote.Merged old) ∷ core zs) line f) (floor_of (outcome_of shape zs) (core zs) line) _ line
          (merged old at bytes given (queue shape (core zs))) (ap (λ f. since (Write at k bytes given (wrote.Merged old) ∷ core zs) line f) (new_floor at k bytes given (wrote.Merged old) line may tt)) (fronts line (eqb k line) refl);
      tails = λ line. tailed line (eqb k line) refl;
      above = λ row line s. subst (λ f. f ≤ row) (sym (new_floor at k bytes given (wrote.Merged old) line may tt)) (up row line (merged-stands old at bytes given (queue shape (core zs)) row line s));
      asked = λ row line s. ask row line (merged-stands old at bytes given (queue shape (core zs)) row line s);
    }
      where
        into : candidate (head_busy_after shape (core zs)) (queue shape (core zs)) k ≡ Some old
        into = merged-candidate shape (core zs) k old may.may.2

        apart : RowsApart (queue shape (core zs))
        apart = (stand_apart shape (core zs) at may.asked).queued_apart

        there : Stands (queue shape (core zs)) old k
        there = merges-stands shape (core zs) k old may.may.2

        fronts : (line : ℕ) (b : Bool) → eqb k line ≡ b → Front (λ f. since (Write at k bytes given (wrote.Merged old) ∷ core zs) line f) (floor_of (outcome_of shape zs) (core zs) line) line (merged old at bytes given (queue shape (core zs)))
        fronts line true is =
            front-merged (λ f. since (core zs) line f) (λ f. since (Write at k bytes given (wrote.Merged old) ∷ core zs) line f) at line given may.may.1.given_len (joins at k bytes given (wrote.Merged old) may refl line is)
            (last at k bytes given (wrote.Merged old) may refl line) (floor_of (outcome_of shape zs) (core zs) line) (head_busy_after shape (core zs)) old bytes (queue shape (core zs)) apart pairs.long pairs.paired
            (subst (λ j. candidate (head_busy_after shape (core zs)) (queue shape (core zs)) j ≡ Some old) (eqb-true k line is) into) (low at k bytes given (wrote.Merged old) may refl line) (c.front line)
        fronts line false ne =
            front-same (λ f. since (core zs) line f) (λ f. since (Write at k bytes given (wrote.Merged old) ∷ core zs) line f) (floor_of (outcome_of shape zs) (core zs) line) (floor_of (outcome_of shape zs) (core zs) line) line (merged old at bytes given (queue shape (core zs)))
            (others at k bytes given (wrote.Merged old) may refl line ne (floor_of (outcome_of shape zs) (core zs) line))
            (front-merged_other (λ f. since (core zs) line f) line (floor_of (outcome_of shape zs) (core zs) line) old at bytes given (queue shape (core zs)) k apart there ne (c.front line))

        tailed : (line : ℕ) (b : Bool) → eqb k line ≡ b → Tails (λ f. since (Write at k bytes given (wrote.Merged old) ∷ core zs) line f) line (merged old at bytes given (queue shape (core zs)))
        tailed line true is =
            tails-merged (λ f. since (core zs) line f) (λ f. since (Write at k bytes given (wrote.Merged old) ∷ core zs) line f) at line given may.may.1.given_len (joins at k bytes given (wrote.Merged old) may refl line is)
            (last at k bytes given (wrote.Merged old) may refl line) old bytes (queue shape (core zs)) apart pairs.long
            (candidate-newest (head_busy_after shape (core zs)) (queue shape (core zs)) line old (subst (λ j. candidate (head_busy_after shape (core zs)) (queue shape (core zs)) j ≡ Some old) (eqb-true k line is) into))
            (below at k bytes given (wrote.Merged old) may refl) (c.tails line)
        tailed line false ne =
            tails-same (λ f. since (core zs) line f) (λ f. since (Write at k bytes given (wrote.Merged old) ∷ core zs) line f) line (merged old at bytes given (queue shape (core zs))) (others at k bytes given (wrote.Merged old) may refl line ne)
            (tails-merged_other (λ f. since (core zs) line f) line old at bytes given (queue shape (core zs)) k apart there ne (c.tails line))

        up : (row line : ℕ) → Stands (queue shape (core zs)) row line ⊎ ((at ≡ row) × Stands (queue shape (core zs)) old line) → floor_of (outcome_of shape zs) (core zs) line ≤ row
        up row line (inl s) = c.above row line s
        up row line (inr s) = let le : floor_of (outcome_of shape zs) (core zs) line ≤ at = low at k bytes given (wrote.Merged old) may refl line in omega (arith, le, s.0)

        ask : (row line : ℕ) → Stands (queue shape (core zs)) row line ⊎ ((at ≡ row) × Stands (queue shape (core zs)) old line) → Wrote (Write at k bytes given (wrote.Merged old) ∷ core zs) row line
        ask row line (inl s) = inr (c.asked row line s)
        ask row line (inr s) = inl (s.0, stands-one (queue shape (core zs)) old k line apart there s.1)

    -- A begin, and a store

    begins : (answer : Step) → MayCome shape pace e zs x (Core (Begin answer)) → Storeless {n = n} (Core (Begin answer)) → queue shape (Begin answer ∷ core zs) ≡ begun (due_after shape (core zs)) (newest (core zs)) (queue shape (core zs))
        → CoveredBy shape zs x.tick (Core (Begin answer))
    begins answer may less same = record {
      front = λ line. front-same (λ f. since (core zs) line f) (λ f. since (core zs) line f) (floor_of (outcome_of shape zs) (core zs) line) _ line (queue shape (Begin answer ∷ core zs))
          (ap (λ f. since (core zs) line f) (same_floor (Core (Begin answer)) line may less))
          (subst (λ (es : List (Entry n)). Front (λ f. since (core zs) line f) (floor_of (outcome_of shape zs) (core zs) line) line es) (sym same)
          (front-begun (λ f. since (core zs) line f) line (floor_of (outcome_of shape zs) (core zs) line) (due_after shape (core zs)) (newest (core zs)) (queue shape (core zs)) (c.front line)));
      tails = λ line. subst (λ (es : List (Entry n)). Tails (λ f. since (core zs) line f) line es) (sym same) (tails-begun (λ f. since (core zs) line f) line (due_after shape (core zs)) (newest (core zs)) (queue shape (core zs)) (c.tails line));
      above = λ row line s. subst (λ f. f ≤ row) (sym (same_floor (Core (Begin answer)) line may less))
          (c.above row line (begun-stands (due_after shape (core zs)) (newest (core zs)) (queue shape (core zs)) row line (subst (λ (es : List (Entry n)). Stands es row line) same s)));
      asked = λ row line s. c.asked row line (begun-stands (due_after shape (core zs)) (newest (core zs)) (queue shape (core zs)) row line (subst (λ (es : List (Entry n)). Stands es row line) same s));
    }

    module _ (at place : ℕ) (f : Entry n) (rest : List (Entry n)) (is : queue shape (core zs) ≡ f ∷ rest) (head : at ≡ f.row) where
      unlike : (row : ℕ) → (at == row) ≡ false → unwrap_or (on_row at row (out.Stored x.tick place)) (outcome_of shape zs row) ≡ outcome_of shape zs row
      unlike row ne = ap (λ b. unwrap_or (cond b (Some (out.Stored x.tick place)) None) (outcome_of shape zs row)) ne

      bound : (next : ℕ) × RowsBelow (core zs) next
      bound = above_all shape pace e zs l

      stands_front : (line : ℕ) → f.line ≡ line → Stands (queue shape (core zs)) f.row line
      stands_front line own = subst (λ (es : List (Entry n)). Stands es f.row line) (sym is) (inl (refl, own))

      own_floor : (line : ℕ) → (f.line == line) ≡ true → floor_of (λ row. unwrap_or (on_row at row (out.Stored x.tick place)) (outcome_of shape zs row)) (core zs) line ≡ suc f.row
      own_floor line own =
          floor-own (λ row. unwrap_or (on_row at row (out.Stored x.tick place)) (outcome_of shape zs row)) (core zs) bound.0 f.row line bound.1 (c.asked f.row line (stands_front line (eqb-true f.line line own)))
          (ap (λ b. is_stored (unwrap_or (cond b (Some (out.Stored x.tick place)) None) (outcome_of shape zs f.row))) (eq-eqb at f.row head)) none
        where
          none : (q : ℕ) → Wrote (core zs) q line → f.row < q → is_stored (unwrap_or (on_row at q (out.Stored x.tick place)) (outcome_of shape zs q)) ≡ false
          none q a lt =
              ap is_stored (unlike q (differ at q (omega (arith, head, lt))))
              ∙ either (is_stored (outcome_of shape zs q))
              (λ s.
              let high : q < floor_of (outcome_of shape zs) (core zs) line = floor-above (outcome_of shape zs) (core zs) bound.0 q line bound.1 a s in
              let low : floor_of (outcome_of shape zs) (core zs) line ≤ f.row = c.above f.row line (stands_front line (eqb-true f.line line own)) in
              absurd (omega (arith, high, low, lt)))
              (λ k. k)

      other_floor : (line : ℕ) → (f.line == line) ≡ false → floor_of (λ row. unwrap_or (on_row at row (out.Stored x.tick place)) (outcome_of shape zs row)) (core zs) line ≡ floor_of (outcome_of shape zs) (core zs) line
      other_floor line ne =
          floor-agree (outcome_of shape zs) (λ row. unwrap_or (on_row at row (out.Stored x.tick place)) (outcome_of shape zs row)) (core zs) line
          (λ row k a own. ap is_stored (unlike row (ne_eqb at row (λ same. clash row k a own same))))
        where
          clash : (row k : ℕ) → Wrote (core zs) row k → (k == line) ≡ true → at ≡ row → ⊥
          clash row k a own same =
              let mine : Wrote (core zs) row f.line = subst (λ q. Wrote (core zs) q f.line) (sym head ∙ same) (c.asked f.row f.line (stands_front f.line refl)) in
              let one : f.line ≡ k = wrote-one (core zs) bound.0 row f.line k bound.1 mine a in
              let his : (f.line == line) ≡ true = eq-eqb f.line line (one ∙ eqb-true k line own) in
              absurd (cc)

      fronts_at : (line : ℕ) → Front (λ g. since (core zs) line g) (floor_of (outcome_of shape zs) (core zs) line) line (f ∷ rest)
      fronts_at line = subst (λ (es : List (Entry n)). Front (λ g. since (core zs) line g) (floor_of (outcome_of shape zs) (core zs) line) line es) is (c.front line)

      tails_at : (line : ℕ) → Tails (λ g. since (core zs) line g) line (f ∷ rest)
      tails_at line = subst (λ (es : List (Entry n)). Tails (λ g. since (core zs) line g) line es) is (c.tails line)

      long_at : AllLong (f ∷ rest)
      long_at = subst (λ (es : List (Entry n)). AllLong es) is pairs.long

      paired_at : ArePaired (f ∷ rest)
      paired_at = subst (λ (es : List (Entry n)). ArePaired es) is pairs.paired

      stored_front : (line : ℕ) → Front (λ g. since (core zs) line g) (floor_of (λ row. unwrap_or (on_row at row (out.Stored x.tick place)) (outcome_of shape zs row)) (core zs) line) line rest
      stored_front line = by (eqb f.line line) refl
        where
          by : (b : Bool) → eqb f.line line ≡ b → Front (λ g. since (core zs) line g) (floor_of (λ row. unwrap_or (on_row at row (out.Stored x.tick place)) (outcome_of shape zs row)) (core zs) line) line rest
          by true own =
              front-same (λ g. since (core zs) line g) (λ g. since (core zs) line g) (suc f.row) _ line rest (ap (λ g. since (core zs) line g) (own_floor line own))
              (front-stored (λ g. since (core zs) line g) line f rest long_at.1 paired_at.0 own (tails_at line))
          by false ne =
              front-same (λ g. since (core zs) line g) (λ g. since (core zs) line g) (floor_of (outcome_of shape zs) (core zs) line) _ line rest (ap (λ g. since (core zs) line g) (other_floor line ne))
              (front-stored_other (λ g. since (core zs) line g) line (floor_of (outcome_of shape zs) (core zs) line) f rest long_at.1 paired_at.0 ne (fronts_at line))

      stored_above : (row line : ℕ) → Stands rest row line → floor_of (λ row. unwrap_or (on_row at row (out.Stored x.tick place)) (outcome_of shape zs row)) (core zs) line ≤ row
      stored_above row line s = by (eqb f.line line) refl
        where
          by : (b : Bool) → eqb f.line line ≡ b → floor_of (λ row. unwrap_or (on_row at row (out.Stored x.tick place)) (outcome_of shape zs row)) (core zs) line ≤ row
          by true own =
              let leads : Leads (λ row. tick_of_row row zs) (f ∷ rest) = subst (λ (es : List (Entry n)). Leads (λ row. tick_of_row row zs) es) is order.leads in
              let lt : f.row < row = (leads row (subst (λ k. Stands rest row k) (sym (eqb-true f.line line own)) s)).0 in
              omega (arith, own_floor line own, lt)
          by false ne =
              let le : floor_of (outcome_of shape zs) (core zs) line ≤ row = c.above row line (subst (λ (es : List (Entry n)). Stands es row line) (sym is) (inr s)) in
              omega (arith, other_floor line ne, le)

      stored_asked : (row line : ℕ) → Stands rest row line → Wrote (core zs) row line
      stored_asked row line s = c.asked row line (subst (λ (es : List (Entry n)). Stands es row line) (sym is) (inr s))

    -- the head is stored
    record StoredBy (at place : ℕ) : Type 0 where
      front : (line : ℕ) → Front (λ g. since (core zs) line g) (floor_of (λ row. unwrap_or (on_row at row (out.Stored x.tick place)) (outcome_of shape zs row)) (core zs) line) line (drop 1 (queue shape (core zs)))
      tails : (line : ℕ) → Tails (λ g. since (core zs) line g) line (drop 1 (queue shape (core zs)))
      above : (row line : ℕ) → Stands (drop 1 (queue shape (core zs))) row line → floor_of (λ row. unwrap_or (on_row at row (out.Stored x.tick place)) (outcome_of shape zs row)) (core zs) line ≤ row
      asked : (row line : ℕ) → Stands (drop 1 (queue shape (core zs))) row line → Wrote (core zs) row line

    stored : (at place : ℕ) → IsHead (queue shape (core zs)) at → StoredBy at place
    stored at place head = by (queue shape (core zs)) refl head
      where
        by : (es : List (Entry n)) → queue shape (core zs) ≡ es → IsHead es at → StoredBy at place
        by [] is h = absurd h
        by (f ∷ rest) is h =
            let gone : drop 1 (queue shape (core zs)) ≡ rest = ap (λ (es : List (Entry n)). drop 1 es) is in
            record {
              front = λ line. subst (λ (es : List (Entry n)). Front (λ g. since (core zs) line g) (floor_of (λ row. unwrap_or (on_row at row (out.Stored x.tick place)) (outcome_of shape zs row)) (core zs) line) line es) (sym gone) (stored_front at place f rest is h line);
              tails = λ line. subst (λ (es : List (Entry n)). Tails (λ g. since (core zs) line g) line es) (sym gone) (tails_at at place f rest is h line).1;
              above = λ row line s. stored_above at place f rest is h row line (subst (λ (es : List (Entry n)). Stands es row line) gone s);
              asked = λ row line s. stored_asked at place f rest is h row line (subst (λ (es : List (Entry n)). Stands es row line) gone s);
            }

    covered_step : (h : Happens n) → MayCome shape pace e zs x h → CoveredBy shape zs x.tick h
    covered_step (Core (Write at k bytes given wrote.Accepted)) may = accepted at k bytes given may
    covered_step (Core (Write at k bytes given (wrote.Merged old))) may = merges at k old bytes given may
    covered_step (Core (Write at k bytes given wrote.Full)) may = quiet (Core (Write at k bytes given wrote.Full)) may tt (λ line f. refl) (λ line. new_floor at k bytes given wrote.Full line may tt) (λ row line a. inr a) refl
    covered_step (Core (Write at k bytes given wrote.Exhausted)) may = quiet (Core (Write at k bytes given wrote.Exhausted)) may tt (λ line f. refl) (λ line. new_floor at k bytes given wrote.Exhausted line may tt) (λ row line a. inr a) refl
    covered_step (Core (Begin (did.Stored at place))) may =
        let s = stored at place (stored-head shape (core zs) at place may.may.1) in record { front = s.front; tails = s.tails; above = s.above; asked = s.asked }
    covered_step (Core (Begin answer)) may = begins answer may tt refl
    covered_step (Core (Iterate (did.Stored at place))) may =
        let s = stored at place (stored-head shape (core zs) at place may.may.1) in record { front = s.front; tails = s.tails; above = s.above; asked = s.asked }
    covered_step h may = quiet h may tt (λ line f. refl) (λ line. same_floor h line may tt) (λ row line a. a) refl

  pub is_covered : (zs : List (TimedEvent n m)) → 1 ≤ pace.read → 1 ≤ pace.iter → Lawful shape pace e zs → IsCovered shape zs
  is_covered [] r i l = record { front = λ line. refl; tails = λ line. tt; above = λ row line s. absurd s; asked = λ row line s. s }
  is_covered (x ∷ zs) r i l =
      let s = covered_step zs x r i l.1 (is_covered zs r i l.1) x.happens l.0 in
      record { front = s.front; tails = s.tails; above = s.above; asked = s.asked }
