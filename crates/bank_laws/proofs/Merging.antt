-- What becomes of an accepted write, and what the rows behind it show of that.
use Rattle.std.proofs.Common.{◌≡◌, ℕ, ◌==◌, ◌&&◌, ◌⊎◌, inl, inr, Bool, true, false, List, [], ◌∷◌, ◌++◌, Option, Some, None, drop, refl, sym, ap, ◌∙◌, subst, cond, eqb, eqb-true, append_assoc}
use Rattle.std.{specs.List.list_any, specs.Prelude.unwrap_or, proofs.lemmas.Bool.{eq-eqb, and_from, and_left, and_right, or_left, or_right, or_from}}
use Rattle.std.proofs.lemmas.List.Folds.{list_any-append}
use Rattle.masked_bytes.{specs.Entries.{RowsApart, merged}, specs.declared.entry.Entry.Entry, proofs.Truth.{neither_first, neither_second}}
use Rattle.result_rows.specs.declared.Outcome.{Outcome}
use Rattle.result_rows.specs.declared.Outcome.TheVariants as out
use Rattle.row_rules.specs.{Answers.accepts, Queueing.{merges_at, merge_fits}, Rows.accepted_of, declared.Asks.TheVariants.Writes, declared.Row.Row}
use Rattle.bank_shape.specs.{declared.BankShape.BankShape, declared.answer.WriteAnswer.WriteAnswer, declared.pace.Pace.Pace}
use Rattle.bank_shape.specs.declared.answer.WriteAnswer.TheVariants as wrote
use Rattle.bank_shape.specs.declared.answer.Step.TheVariants as did
use Rattle.bank_model.specs.{Events.{Write, Read, Begin, Iterate, Cut, newest}, History.{begun, queue, due_after}, Lawful.{Lawful, MayCome}}
use Rattle.bank_model.specs.Timing.{Happens, Core, TimedEvent, core, core_of}
use Rattle.bank_laws.specs.{Outcomes.{on_row, outcome_with, outcome_of, ended, row_with, rows_from}, RowLaws.{is_merge_fair, MergeLaw}, Settling.AreOpen}
use Rattle.bank_laws.proofs.{Answering.{IsHead, stored-head}, Ending.{Onwards, IsOutcome, accepting, write_outcome, outcome-accepts}}
use Rattle.bank_laws.proofs.Lines.{Stands, Covered, covered-stands, stands-row, stands-one, stands-push, stands-new, covered-push, covered-new, stands-begun, covered-begun}
use Rattle.bank_laws.proofs.Lines.{stands-rest, covered-rest, stands-merged, covered-merged, merged-new, merges-stands, merges-covers, merges-uncovered}
use Rattle.bank_laws.proofs.{Serves.{may_at, onwards_at}, Settling.{opens, above_all, lawful_before, step_stays}, Standing.stand_apart, Walking.{Passes, walk, rows_after}}

module _ {n : ℕ} where
  any-more : (p : Row n → Bool) (xs ys : List (Row n)) → list_any p xs ≡ true → list_any p (xs ++ ys) ≡ true
  any-more p xs ys h = list_any-append p xs ys ∙ or_left (list_any p xs) _ h

  any-new : (p : Row n → Bool) (xs : List (Row n)) (r : Row n) → p r ≡ true → list_any p (xs ++ r ∷ []) ≡ true
  any-new p xs r h = list_any-append p xs (r ∷ []) ∙ or_right (list_any p xs) _ (or_left (p r) false h)

  any-none : (p : Row n → Bool) (xs ys : List (Row n)) → list_any p xs ≡ false → list_any p ys ≡ false → list_any p (xs ++ ys) ≡ false
  any-none p xs ys h k = list_any-append p xs ys ∙ or_from (list_any p xs) _ h k

  -- the first accepted write of a line stays the first
  merges_at-more : (line tick : ℕ) (xs ys : List (Row n)) → merges_at line tick xs ≡ true → merges_at line tick (xs ++ ys) ≡ true
  merges_at-more line tick [] ys h = absurd (cc)
  merges_at-more line tick (x ∷ xs) ys h = by (accepted_of line x) (λ k. merges_at-more line tick xs ys k) h
    where
      by : (b : Bool) → (merges_at line tick xs ≡ true → merges_at line tick (xs ++ ys) ≡ true) → cond b (x.tick == tick) (merges_at line tick xs) ≡ true → cond b (x.tick == tick) (merges_at line tick (xs ++ ys)) ≡ true
      by true go h = h
      by false go h = go h

  merges_at-new : (line : ℕ) (xs : List (Row n)) (r : Row n) → list_any (accepted_of line) xs ≡ false → accepted_of line r ≡ true → merges_at line r.tick (xs ++ r ∷ []) ≡ true
  merges_at-new line [] r none is = subst (λ b. cond b (r.tick == r.tick) false ≡ true) (sym is) (eq-eqb r.tick r.tick refl)
  merges_at-new line (x ∷ xs) r none is =
      subst (λ b. cond b (x.tick == r.tick) (merges_at line r.tick (xs ++ r ∷ [])) ≡ true) (sym (neither_first (accepted_of line x) _ none))
      (merges_at-new line xs r (neither_second (accepted_of line x) _ none) is)

  -- what stays true of a row's entry while entries come, merge, are begun and go
  pub record IsKept (P : List (Entry n) → Type 0) (row : ℕ) : Type 0 where
    push : (es : List (Entry n)) (x : Entry n) → P es → P (es ++ x ∷ [])
    merge : (old new : ℕ) (bytes : List ℕ) (given : List Bool) (es : List (Entry n)) → (old == row) ≡ false → P es → P (merged old new bytes given es)
    begin : (due : Option ℕ) (f : ℕ → List ℕ) (es : List (Entry n)) → P es → P (begun due f es)
    rest : (e : Entry n) (es : List (Entry n)) → (e.row == row) ≡ false → P (e ∷ es) → P es

  stands-kept : (row line : ℕ) → IsKept (λ es. Stands es row line) row
  stands-kept row line = record {
    push = λ es x s. stands-push es x row line s;
    merge = λ old new bytes given es ne s. stands-merged old new bytes given es row line ne s;
    begin = λ due f es s. stands-begun due f es row line s;
    rest = λ e es ne s. stands-rest e es row line ne s;
  }

  pub covered-kept : (row line : ℕ) → IsKept (λ es. Covered es row line) row
  covered-kept row line = record {
    push = λ es x s. covered-push es x row line s;
    merge = λ old new bytes given es ne s. covered-merged old new bytes given es row line ne s;
    begin = λ due f es s. covered-begun due f es row line s;
    rest = λ e es ne s. covered-rest e es row line ne s;
  }

  -- what happens merges nothing into the entry of a row
  abbrev pub SparesRow : Happens n → ℕ → Type 0
  SparesRow (Core (Write at line bytes given (wrote.Merged old))) row = (old == row) ≡ false
  SparesRow _ row = Unit {0}

  drops : (P : List (Entry n) → Type 0) (row : ℕ) → IsKept P row → (es : List (Entry n)) (at tick place : ℕ) (o : Outcome n) → IsHead es at → P es
      → P (drop 1 es) ⊎ ((u : ℕ) × (p : ℕ) × (unwrap_or (on_row at row (out.Stored tick place)) o ≡ out.Stored u p))
  drops P row k [] at tick place o head there = absurd head
  drops P row k (e ∷ es) at tick place o head there = by (eqb at row) refl
    where
      by : (b : Bool) → eqb at row ≡ b → P es ⊎ ((u : ℕ) × (p : ℕ) × (unwrap_or (cond b (Some (out.Stored tick place)) None) o ≡ out.Stored u p))
      by true is = inr (tick, place, refl)
      by false is = inl (k.rest e es (subst (λ r. (r == row) ≡ false) head is) there)

module _ {n m : ℕ} (shape : BankShape) where
  -- a row is stored, by an event at this tick
  abbrev pub StoredBy : List (TimedEvent n m) → ℕ → Happens n → ℕ → Type 0
  StoredBy zs tick h row = (u : ℕ) × (p : ℕ) × (unwrap_or (outcome_with shape zs h tick row) (outcome_of shape zs row) ≡ out.Stored u p)

  -- an accepted write of a line stands, and none came behind it; or it stands, and one stands behind it; or it is stored;
  -- or it is merged, at the tick of the next accepted write of the line
  abbrev pub Fate : List (TimedEvent n m) → List (Row n) → ℕ → ℕ → Type 0
  Fate zs between row line =
      (Stands (queue shape (core zs)) row line × (list_any (accepted_of line) between ≡ false))
      ⊎ ((Covered (queue shape (core zs)) row line × (list_any (accepted_of line) between ≡ true))
      ⊎ (((u : ℕ) × (p : ℕ) × (outcome_of shape zs row ≡ out.Stored u p))
      ⊎ ((u : ℕ) × (outcome_of shape zs row ≡ out.Merged u) × (merges_at line u between ≡ true))))

  -- that after one more event
  abbrev pub FateBy : List (TimedEvent n m) → ℕ → Happens n → List (Row n) → ℕ → ℕ → Type 0
  FateBy zs tick h between row line =
      (Stands (queue shape (core_of h (core zs))) row line × (list_any (accepted_of line) between ≡ false))
      ⊎ ((Covered (queue shape (core_of h (core zs))) row line × (list_any (accepted_of line) between ≡ true))
      ⊎ (StoredBy zs tick h row
      ⊎ ((u : ℕ) × (unwrap_or (outcome_with shape zs h tick row) (outcome_of shape zs row) ≡ out.Merged u) × (merges_at line u between ≡ true))))

module _ {n m : ℕ} (shape : BankShape) (pace : Pace) (e : ℕ) where
  pub stays_there : (P : List (Entry n) → Type 0) (row : ℕ) → IsKept P row → (zs : List (TimedEvent n m)) (x : TimedEvent n m) (h : Happens n) → MayCome shape pace e zs x h → SparesRow h row
      → P (queue shape (core zs)) → P (queue shape (core_of h (core zs))) ⊎ StoredBy shape zs x.tick h row
  stays_there P row k zs x (Core (Write at line bytes given wrote.Accepted)) may spares p = inl (k.push (queue shape (core zs)) _ p)
  stays_there P row k zs x (Core (Write at line bytes given (wrote.Merged old))) may spares p = inl (k.merge old at bytes given (queue shape (core zs)) spares p)
  stays_there P row k zs x (Core (Begin (did.Stored at place))) may spares p = drops P row k (queue shape (core zs)) at x.tick place (outcome_of shape zs row) (stored-head shape (core zs) at place may.may.1) p
  stays_there P row k zs x (Core (Begin _)) may spares p = inl (k.begin (due_after shape (core zs)) (newest (core zs)) (queue shape (core zs)) p)
  stays_there P row k zs x (Core (Iterate (did.Stored at place))) may spares p = drops P row k (queue shape (core zs)) at x.tick place (outcome_of shape zs row) (stored-head shape (core zs) at place may.may.1) p
  stays_there P row k zs x _ may spares p = inl p

  -- a row with an entry of its line behind it is never merged
  pub spares_covered : (zs : List (TimedEvent n m)) (x : TimedEvent n m) (h : Happens n) (row line : ℕ) → MayCome shape pace e zs x h → RowsApart (queue shape (core zs)) → Covered (queue shape (core zs)) row line → SparesRow h row
  spares_covered zs x (Core (Write at l bytes given (wrote.Merged old))) row line may apart c = by (eqb old row) refl
    where
      same : old ≡ row → ⊥
      same is =
          let there : Stands (queue shape (core zs)) row l = subst (λ r. Stands (queue shape (core zs)) r l) is (merges-stands shape (core zs) l old may.may.2) in
          let lines : line ≡ l = stands-one (queue shape (core zs)) row line l apart (covered-stands (queue shape (core zs)) row line c) there in
          merges-uncovered shape (core zs) l old may.may.2 apart (subst (λ r. Covered (queue shape (core zs)) r l) (sym is) (subst (λ k. Covered (queue shape (core zs)) row k) lines c))

      by : (b : Bool) → eqb old row ≡ b → eqb old row ≡ false
      by true is = absurd (same (eqb-true old row is))
      by false is = is
  spares_covered zs x _ row line may apart c = tt

  -- nor is one by a write of another line
  spares_other : (zs : List (TimedEvent n m)) (x : TimedEvent n m) (at l row line old : ℕ) (bytes : List ℕ) (given : List Bool) → MayCome shape pace e zs x (Core (Write at l bytes given (wrote.Merged old))) → RowsApart (queue shape (core zs))
      → Stands (queue shape (core zs)) row line → (l == line) ≡ false → (old == row) ≡ false
  spares_other zs x at l row line old bytes given may apart s ne = by (eqb old row) refl
    where
      by : (b : Bool) → eqb old row ≡ b → eqb old row ≡ false
      by true is =
          let there : Stands (queue shape (core zs)) row l = subst (λ r. Stands (queue shape (core zs)) r l) (eqb-true old row is) (merges-stands shape (core zs) l old may.may.2) in
          let lines : l ≡ line = stands-one (queue shape (core zs)) row l line apart there s in
          absurd (cc (ne, eq-eqb l line lines))
      by false is = is

  module _ (all : List (TimedEvent n m)) where
    -- the row of a write accepts where its answer does
    abbrev RowAgrees : ℕ → Happens n → Type 0
    RowAgrees tick (Core (Write at line bytes given answer)) = accepts (ended tick (outcome_of shape all at)) ≡ accepting answer
    RowAgrees tick h = Unit {0}

    alone_on : (zs : List (TimedEvent n m)) (x : TimedEvent n m) (h : Happens n) (between rows : List (Row n)) (row line : ℕ) → MayCome shape pace e zs x h → SparesRow h row
        → Stands (queue shape (core zs)) row line → list_any (accepted_of line) between ≡ false → list_any (accepted_of line) rows ≡ false
        → FateBy shape zs x.tick h (between ++ rows) row line
    alone_on zs x h between rows row line may spares s none quiet = by (stays_there (λ es. Stands es row line) row (stands-kept row line) zs x h may spares s)
      where
        by : Stands (queue shape (core_of h (core zs))) row line ⊎ StoredBy shape zs x.tick h row → FateBy shape zs x.tick h (between ++ rows) row line
        by (inl there) = inl (there, any-none (accepted_of line) between rows none quiet)
        by (inr stored) = inr (inr (inl stored))

    alone_step : (zs : List (TimedEvent n m)) (x : TimedEvent n m) (h : Happens n) (cancels : Bool) (between : List (Row n)) (row line : ℕ) → RowsApart (queue shape (core zs)) → MayCome shape pace e zs x h → RowAgrees x.tick h
        → Stands (queue shape (core zs)) row line → list_any (accepted_of line) between ≡ false
        → FateBy shape zs x.tick h (between ++ row_with shape all h x.tick cancels) row line
    alone_step zs x (Core (Write at l bytes given wrote.Full)) cancels between row line apart may acc s none =
        alone_on zs x (Core (Write at l bytes given wrote.Full)) between _ row line may tt s none (or_from (l == line && accepts (ended x.tick (outcome_of shape all at))) false (and_right (l == line) _ acc) refl)
    alone_step zs x (Core (Write at l bytes given wrote.Exhausted)) cancels between row line apart may acc s none =
        alone_on zs x (Core (Write at l bytes given wrote.Exhausted)) between _ row line may tt s none (or_from (l == line && accepts (ended x.tick (outcome_of shape all at))) false (and_right (l == line) _ acc) refl)
    alone_step zs x (Core (Write at l bytes given wrote.Accepted)) cancels between row line apart may acc s none = by (eqb l line) refl
      where
        own : Row n
        own = record { tick = x.tick; asks = Writes l bytes given; outcome = ended x.tick (outcome_of shape all at) }

        by : (b : Bool) → eqb l line ≡ b → FateBy shape zs x.tick (Core (Write at l bytes given wrote.Accepted)) (between ++ own ∷ []) row line
        by true is =
            inr (inl (
              covered-new (queue shape (core zs)) (record { row = at; line = l; bytes = bytes; given = given }) row line (eqb-true l line is) s,
              any-new (accepted_of line) between own (and_from (l == line) _ is acc),
            ))
        by false is = alone_on zs x (Core (Write at l bytes given wrote.Accepted)) between (own ∷ []) row line may tt s none (or_from (l == line && accepts own.outcome) false (and_left (l == line) _ is) refl)
    alone_step zs x (Core (Write at l bytes given (wrote.Merged old))) cancels between row line apart may acc s none = by (eqb l line) refl
      where
        own : Row n
        own = record { tick = x.tick; asks = Writes l bytes given; outcome = ended x.tick (outcome_of shape all at) }

        into : eqb l line ≡ true → (b : Bool) → eqb old row ≡ b
            → (Stands (merged old at bytes given (queue shape (core zs))) row line × (list_any (accepted_of line) (between ++ own ∷ []) ≡ false))
            ⊎ ((Covered (merged old at bytes given (queue shape (core zs))) row line × (list_any (accepted_of line) (between ++ own ∷ []) ≡ true))
            ⊎ (((u : ℕ) × (p : ℕ) × (unwrap_or (cond b (Some (out.Merged x.tick)) None) (outcome_of shape zs row) ≡ out.Stored u p))
            ⊎ ((u : ℕ) × (unwrap_or (cond b (Some (out.Merged x.tick)) None) (outcome_of shape zs row) ≡ out.Merged u) × (merges_at line u (between ++ own ∷ []) ≡ true))))
        into is true old_is = inr (inr (inr (x.tick, refl, merges_at-new line between own none (and_from (l == line) _ is acc))))
        into is false old_is =
            inr (inl (
              covered-merged old at bytes given (queue shape (core zs)) row line old_is
                  (subst (λ k. Covered (queue shape (core zs)) row k) (eqb-true l line is)
                  (merges-covers shape (core zs) l old may.may.2 row old_is (subst (λ k. Stands (queue shape (core zs)) row k) (sym (eqb-true l line is)) s))),
              any-new (accepted_of line) between own (and_from (l == line) _ is acc),
            ))

        by : (b : Bool) → eqb l line ≡ b → FateBy shape zs x.tick (Core (Write at l bytes given (wrote.Merged old))) (between ++ own ∷ []) row line
        by true is = into is (eqb old row) refl
        by false is =
            alone_on zs x (Core (Write at l bytes given (wrote.Merged old))) between (own ∷ []) row line may (spares_other zs x at l row line old bytes given may apart s is) s none
            (or_from (l == line && accepts own.outcome) false (and_left (l == line) _ is) refl)
    alone_step zs x (Core (Cut tearing)) true between row line apart may acc s none = alone_on zs x (Core (Cut tearing)) between _ row line may tt s none refl
    alone_step zs x h _ between row line apart may acc s none = alone_on zs x h between _ row line may tt s none refl

    fate_step : (zs : List (TimedEvent n m)) (x : TimedEvent n m) (h : Happens n) (cancels : Bool) (between : List (Row n)) (row line : ℕ) → Lawful shape pace e zs → RowsApart (queue shape (core zs)) → MayCome shape pace e zs x h → RowAgrees x.tick h
        → Fate shape zs between row line → FateBy shape zs x.tick h (between ++ row_with shape all h x.tick cancels) row line
    fate_step zs x h cancels between row line l apart may acc (inl alone) = alone_step zs x h cancels between row line apart may acc alone.0 alone.1
    fate_step zs x h cancels between row line l apart may acc (inr (inl covered)) =
        by (stays_there (λ es. Covered es row line) row (covered-kept row line) zs x h may (spares_covered zs x h row line may apart covered.0) covered.0)
      where
        by : Covered (queue shape (core_of h (core zs))) row line ⊎ StoredBy shape zs x.tick h row → FateBy shape zs x.tick h (between ++ row_with shape all h x.tick cancels) row line
        by (inl there) = inr (inl (there, any-more (accepted_of line) between _ covered.1))
        by (inr stored) = inr (inr (inl stored))
    fate_step zs x h cancels between row line l apart may acc (inr (inr (inl stored))) =
        inr (inr (inl (stored.0, stored.1, step_stays shape pace e zs x h row l (opens shape pace e zs l) may (λ un. let k : ◌≡◌ {A = Outcome n} (out.Stored stored.0 stored.1) out.Unset = sym stored.2 ∙ un in absurd (cc)) ∙ stored.2)))
    fate_step zs x h cancels between row line l apart may acc (inr (inr (inr into))) =
        inr (inr (inr (
          into.0,
          step_stays shape pace e zs x h row l (opens shape pace e zs l) may (λ un. let k : ◌≡◌ {A = Outcome n} (out.Merged into.0) out.Unset = sym into.1 ∙ un in absurd (cc)) ∙ into.1,
          merges_at-more line into.0 between _ into.2,
        )))

    pub row_agrees : (pre : List (TimedEvent n m)) (x : TimedEvent n m) (ys : List (TimedEvent n m)) → Lawful shape pace e all → AreOpen shape all → all ≡ pre ++ x ∷ ys → RowAgrees x.tick x.happens
    row_agrees pre x ys l o same = by x.happens (may_at shape pace e all pre x ys l same) (onwards_at shape pace e all pre x ys l same)
      where
        by : (h : Happens n) → MayCome shape pace e ys x h → Onwards shape all ys x.tick h → RowAgrees x.tick h
        by (Core (Write at line bytes given answer)) may on = outcome-accepts x.tick answer (ended x.tick (outcome_of shape all at)) (write_outcome shape pace e all ys x at line bytes given answer o may on)
        by _ may on = tt

    -- over any later events
    pub fate : (pre later zs : List (TimedEvent n m)) (row line : ℕ) → Lawful shape pace e all → AreOpen shape all → all ≡ pre ++ (later ++ zs) → Fate shape zs [] row line → Fate shape (later ++ zs) (rows_after shape all later) row line
    fate pre [] zs row line l o same f = f
    fate pre (x ∷ later) zs row line l o same f =
        let here : Lawful shape pace e (x ∷ later ++ zs) = lawful_before shape pace e pre (x ∷ later ++ zs) (subst (λ (xs : List (TimedEvent n m)). Lawful shape pace e xs) same l) in
        let b = above_all shape pace e (later ++ zs) here.1 in
        fate_step (later ++ zs) x x.happens x.cancels (rows_after shape all later) row line here.1 (stand_apart shape (core (later ++ zs)) b.0 b.1).queued_apart here.0
        (row_agrees pre x (later ++ zs) l o same)
        (fate (pre ++ x ∷ []) later zs row line l o (same ∙ sym (append_assoc pre (x ∷ []) (later ++ zs))) f)

    -- what is left in the end
    fate_fits : (later zs : List (TimedEvent n m)) (row line tick : ℕ) → AreOpen shape all → all ≡ later ++ zs → Fate shape (later ++ zs) (rows_after shape all later) row line
        → merge_fits line (ended tick (outcome_of shape all row)) (rows_after shape all later) ≡ true
    fate_fits later zs row line tick o same f = by (subst (λ xs. Fate shape xs (rows_after shape all later) row line) (sym same) f)
      where
        by : Fate shape all (rows_after shape all later) row line → merge_fits line (ended tick (outcome_of shape all row)) (rows_after shape all later) ≡ true
        by (inl alone) = ap (λ (o : Outcome n). merge_fits line (ended tick o) (rows_after shape all later)) (o.queued row (stands-row (queue shape (core all)) row line alone.0))
        by (inr (inl covered)) =
            ap (λ (o : Outcome n). merge_fits line (ended tick o) (rows_after shape all later)) (o.queued row (stands-row (queue shape (core all)) row line (covered-stands (queue shape (core all)) row line covered.0)))
        by (inr (inr (inl stored))) = ap (λ (o : Outcome n). merge_fits line (ended tick o) (rows_after shape all later)) stored.2
        by (inr (inr (inr into))) = ap (λ (o : Outcome n). merge_fits line (ended tick o) (rows_after shape all later)) into.1 ∙ into.2

    -- an accepted write stands as its row comes
    pub fate_new : (ys : List (TimedEvent n m)) (x : TimedEvent n m) (at line : ℕ) (bytes : List ℕ) (given : List Bool) (answer : WriteAnswer) → Lawful shape pace e ys → MayCome shape pace e ys x (Core (Write at line bytes given answer))
        → accepting answer ≡ true → Stands (queue shape (Write at line bytes given answer ∷ core ys)) at line
    fate_new ys x at line bytes given wrote.Accepted l may acc = stands-new (queue shape (core ys)) (record { row = at; line = line; bytes = bytes; given = given })
    fate_new ys x at line bytes given (wrote.Merged old) l may acc =
        let b = above_all shape pace e ys l in
        merged-new old at bytes given (queue shape (core ys)) line (stand_apart shape (core ys) b.0 b.1).queued_apart (merges-stands shape (core ys) line old may.may.2)
    fate_new ys x at line bytes given _ l may acc = absurd (cc)

    refused_fits : (tick line : ℕ) (answer : WriteAnswer) (o : Outcome n) (after : List (Row n)) → accepting answer ≡ false → IsOutcome tick answer o → merge_fits line o after ≡ true
    refused_fits tick line wrote.Full o after ref is = ap (λ (o : Outcome n). merge_fits line o after) is
    refused_fits tick line wrote.Exhausted o after ref is = ap (λ (o : Outcome n). merge_fits line o after) is
    refused_fits tick line _ o after ref is = absurd (cc)

    merged_at : Lawful shape pace e all → AreOpen shape all → (later : List (TimedEvent n m)) (x : TimedEvent n m) (ys : List (TimedEvent n m)) → all ≡ later ++ x ∷ ys
        → Passes is_merge_fair (rows_from shape all ys) (row_with shape all x.happens x.tick x.cancels) (rows_after shape all later)
    merged_at l o later x ys same =
        by x.happens x.cancels here.1 (may_at shape pace e all later x ys l same) (onwards_at shape pace e all later x ys l same) (λ row line f. fate_fits later (x ∷ ys) row line x.tick o same (fate [] later (x ∷ ys) row line l o same f))
      where
        here : Lawful shape pace e (x ∷ ys)
        here = lawful_before shape pace e later (x ∷ ys) (subst (λ (xs : List (TimedEvent n m)). Lawful shape pace e xs) same l)

        by : (h : Happens n) (cancels : Bool) → Lawful shape pace e ys → MayCome shape pace e ys x h → Onwards shape all ys x.tick h
            → ((row line : ℕ) → FateBy shape ys x.tick h [] row line → merge_fits line (ended x.tick (outcome_of shape all row)) (rows_after shape all later) ≡ true)
            → Passes is_merge_fair (rows_from shape all ys) (row_with shape all h x.tick cancels) (rows_after shape all later)
        by (Core (Write at line bytes given answer)) cancels before may on fits = kind (accepting answer) refl
          where
            kind : (b : Bool) → accepting answer ≡ b → merge_fits line (ended x.tick (outcome_of shape all at)) (rows_after shape all later) ≡ true
            kind true acc = fits at line (inl (fate_new ys x at line bytes given answer before may acc, refl))
            kind false ref = refused_fits x.tick line answer (ended x.tick (outcome_of shape all at)) (rows_after shape all later) ref (write_outcome shape pace e all ys x at line bytes given answer o may on)
        by (Core (Read at line answer)) cancels before may on fits = refl
        by (Core (Cut tearing)) false before may on fits = refl
        by _ _ before may on fits = tt

pub merge_law : MergeLaw
merge_law n m e shape pace xs l = walk shape xs is_merge_fair [] xs refl (merged_at shape pace e xs l (opens shape pace e xs l))
