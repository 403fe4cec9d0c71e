-- A line whose entry is the head of the queue is stored before any other row is.
use Rattle.std.proofs.Common.{◌≡◌, ℕ, ◌<◌, ◌≤◌, ◌==◌, ◌&&◌, ◌||◌, ◌⊎◌, inl, inr, not, Bool, true, false, List, [], ◌∷◌, ◌++◌, Option, Some, None, min, refl, sym, ap, ◌∙◌, subst, arith, cond, eqb}
use Rattle.std.{specs.List.list_any, specs.Prelude.{unwrap_or, nat_lt}, proofs.lemmas.Bool.{eq-eqb, lt-ltb, and_from, or_left, or_right}}
use Rattle.result_rows.specs.declared.Outcome.{Outcome}
use Rattle.result_rows.specs.declared.Outcome.TheVariants as out
use Rattle.masked_bytes.specs.{Entries.{merged, laid_on}, declared.entry.Entry.Entry}
use Rattle.row_rules.specs.{Answers.{is_stored, stored_before}, Queueing.{least, store_of, next_store, is_first}, Rows.write_of, declared.Row.Row}
use Rattle.bank_shape.specs.{declared.BankShape.BankShape, declared.pace.Pace.Pace}
use Rattle.bank_shape.specs.declared.answer.WriteAnswer.TheVariants as wrote
use Rattle.bank_shape.specs.declared.answer.Step.TheVariants as did
use Rattle.bank_model.specs.{Events.{Write, Begin, Iterate, newest}, History.{begun, queue, due_after}, Lawful.{Lawful, MayCome}}
use Rattle.bank_model.specs.Timing.{Happens, Core, TimedEvent, core, core_of, last_tick}
use Rattle.bank_laws.{specs.Outcomes.{on_row, outcome_with, outcome_of, ended, row_with, rows_from}, specs.Ticks.ends_action, proofs.Answering.{IsHead, stored-head}}
use Rattle.bank_laws.proofs.{Asked.Wrote, Later.EndsAbove, Lines.Stands, Settling.{opens, step_stays}, Ticks.last_tick-rises, Walking.rows_after, Wears.{stored_by, stored_tick}}
use Rattle.queue_laws.proofs.{Covering.{is_covered, Storeless, none_new}, Few.{StandsWell, entry_unset, not_stored_ended, not_before_ended}, First.{NoneStored, NoneBelow}}
use Rattle.queue_laws.proofs.{Showing.HasHead, Written.{Written, items, standing, Each, written_by, written, IsEntry}}

-- a next store by a tick
abbrev NextBy : ℕ → Option ℕ → Type 0
NextBy u found = (v : ℕ) × (found ≡ Some v) × (v ≤ u)

least-own : (found : Option ℕ) (u : ℕ) → NextBy u (least found u)
least-own None u = (u, refl, omega arith)
least-own (Some v) u = (min v u, refl, omega arith)

module _ {n : ℕ} where
  line-pushed : (es : List (Entry n)) (x : Entry n) (line : ℕ) → HasHead line es → HasHead line (es ++ x ∷ [])
  line-pushed es x line h = grind arith

  line-merged : (old row : ℕ) (bytes : List ℕ) (given : List Bool) (es : List (Entry n)) (line : ℕ) → HasHead line es → HasHead line (merged old row bytes given es)
  line-merged old row bytes given [] line h = h
  line-merged old row bytes given (e ∷ es) line h = by (eqb e.row old)
    where
      by : (b : Bool) → HasHead line (cond b (laid_on row bytes given e ∷ es) (e ∷ merged old row bytes given es))
      by b = grind arith

  line-begun : (due : Option ℕ) (fill : ℕ → List ℕ) (es : List (Entry n)) (line : ℕ) → HasHead line es → HasHead line (begun due fill es)
  line-begun due fill es line h = grind arith

  line-stands : (es : List (Entry n)) (row line : ℕ) → IsHead es row → HasHead line es → Stands es row line
  line-stands [] row line head h = absurd h
  line-stands (e ∷ es) row line head h = inl (sym head, h)

  -- The next store of a line

  -- some of these rows is a write of the line that is stored at a tick
  abbrev pub HasStore : ℕ → ℕ → List (Row n) → Type 0
  HasStore line u [] = ⊥
  HasStore line u (q ∷ rows) = ((write_of line q ≡ true) × (p : ℕ) × (q.outcome ≡ out.Stored u p)) ⊎ HasStore line u rows

  pub store-left : (line u : ℕ) (xs ys : List (Row n)) → HasStore line u xs → HasStore line u (xs ++ ys)
  store-left line u [] ys s = absurd s
  store-left line u (x ∷ xs) ys (inl s) = inl s
  store-left line u (x ∷ xs) ys (inr s) = inr (store-left line u xs ys s)

  pub store-right : (line u : ℕ) (xs ys : List (Row n)) → HasStore line u ys → HasStore line u (xs ++ ys)
  store-right line u [] ys s = s
  store-right line u (x ∷ xs) ys s = inr (store-right line u xs ys s)

  store_of-own : (t line u p : ℕ) (q : Row n) (found : Option ℕ) → write_of line q ≡ true → t < u → NextBy u (store_of t line q (out.Stored u p) found)
  store_of-own t line u p q found own lt = subst (λ b. NextBy u (cond b (least found u) found)) (sym (and_from (write_of line q) (nat_lt t u) own (lt-ltb t u lt))) (least-own found u)

  store_of-more : (t line u : ℕ) (q : Row n) (o : Outcome n) (found : Option ℕ) → NextBy u found → NextBy u (store_of t line q o found)
  store_of-more t line u q (out.Stored at place) found f = by (write_of line q && nat_lt t at)
    where
      by : (b : Bool) → NextBy u (cond b (least found at) found)
      by true = subst (λ k. NextBy u (least k at)) (sym f.1) (min f.0 at, refl, omega (arith, f.2))
      by false = f
  store_of-more t line u q _ found f = f

  next_found : (t line u : ℕ) (rows : List (Row n)) → HasStore line u rows → t < u → NextBy u (next_store t line rows)
  next_found t line u [] s lt = absurd s
  next_found t line u (q ∷ rows) (inl s) lt = subst (λ (o : Outcome n). NextBy u (store_of t line q o (next_store t line rows))) (sym s.2) (store_of-own t line u s.1 q (next_store t line rows) s.0 lt)
  next_found t line u (q ∷ rows) (inr s) lt = store_of-more t line u q q.outcome (next_store t line rows) (next_found t line u rows s lt)

module _ {n m : ℕ} (shape : BankShape) (all : List (TimedEvent n m)) (row line u p : ℕ) (stored : outcome_of shape all row ≡ out.Stored u p) where
  -- the row of a stored write is among the rows
  store-own : (tick at k : ℕ) → at ≡ row → k ≡ line → ((k == line) ≡ true) × (q : ℕ) × (ended tick (outcome_of shape all at) ≡ out.Stored u q)
  store-own tick at k a b = (eq-eqb k line b, p, ap (λ r. ended tick (outcome_of shape all r)) a ∙ ap (ended tick) stored)

  pub store-from : (ys : List (TimedEvent n m)) → Wrote (core ys) row line → HasStore line u (rows_from shape all ys)
  store-from [] a = absurd a
  store-from (y ∷ ys) a = by y.happens y.cancels (λ k. store-from ys k) a
    where
      by : (h : Happens n) (cancels : Bool) → (Wrote (core ys) row line → HasStore line u (rows_from shape all ys)) → Wrote (core_of h (core ys)) row line → HasStore line u (row_with shape all h y.tick cancels ++ rows_from shape all ys)
      by h cancels go a = grind arith

  pub store-after : (mid zs : List (TimedEvent n m)) → Wrote (core (mid ++ zs)) row line → HasStore line u (rows_after shape all mid) ⊎ Wrote (core zs) row line
  store-after [] zs a = inr a
  store-after (x ∷ mid) zs a = by x.happens x.cancels (λ k. store-after mid zs k) a
    where
      more : (h : Happens n) (cancels : Bool) → HasStore line u (rows_after shape all mid) ⊎ Wrote (core zs) row line → HasStore line u (rows_after shape all mid ++ row_with shape all h x.tick cancels) ⊎ Wrote (core zs) row line
      more h cancels (inl s) = inl (store-left line u (rows_after shape all mid) (row_with shape all h x.tick cancels) s)
      more h cancels (inr a) = inr a

      by : (h : Happens n) (cancels : Bool) → (Wrote (core (mid ++ zs)) row line → HasStore line u (rows_after shape all mid) ⊎ Wrote (core zs) row line) → Wrote (core_of h (core (mid ++ zs))) row line
          → HasStore line u (rows_after shape all mid ++ row_with shape all h x.tick cancels) ⊎ Wrote (core zs) row line
      by (Core (Write at k bytes given answer)) cancels go (inl own) =
          inl (store-right line u (rows_after shape all mid) (row_with shape all (Core (Write at k bytes given answer)) x.tick cancels) (inl (store-own x.tick at k own.0 own.1)))
      by (Core (Write at k bytes given answer)) cancels go (inr rest) = more (Core (Write at k bytes given answer)) cancels (go rest)
      by h cancels go a = more h cancels (go a)

module _ {n m : ℕ} (shape : BankShape) (now : List (TimedEvent n m)) (t line : ℕ) where
  -- a write of the line is stored above a tick, and no other row before it
  pub record IsStoredFirst (zs : List (TimedEvent n m)) : Type 0 where
    pub row : ℕ
    pub at : ℕ
    pub place : ℕ
    pub asked : Wrote (core zs) row line
    pub stored : outcome_of shape zs row ≡ out.Stored at place
    pub after : t < at
    pub by_now : at ≤ last_tick zs
    pub none : NoneBelow shape now at (outcome_of shape zs)

  -- the line has the head and none of the rows that stood is stored, or a write of it is stored first
  abbrev pub LineFirst : List (TimedEvent n m) → Type 0
  LineFirst zs = (HasHead line (queue shape (core zs)) × NoneStored shape now (outcome_of shape zs)) ⊎ IsStoredFirst zs

  record IsStoredFirstBy (zs : List (TimedEvent n m)) (tick : ℕ) (h : Happens n) : Type 0 where
    row : ℕ
    at : ℕ
    place : ℕ
    asked : Wrote (core_of h (core zs)) row line
    stored : unwrap_or (outcome_with shape zs h tick row) (outcome_of shape zs row) ≡ out.Stored at place
    after : t < at
    by_now : at ≤ tick
    none : NoneBelow shape now at (λ row. unwrap_or (outcome_with shape zs h tick row) (outcome_of shape zs row))

  abbrev LineFirstBy : List (TimedEvent n m) → ℕ → Happens n → Type 0
  LineFirstBy zs tick h =
      (HasHead line (queue shape (core_of h (core zs))) × NoneStored shape now (λ row. unwrap_or (outcome_with shape zs h tick row) (outcome_of shape zs row))) ⊎ IsStoredFirstBy zs tick h

module _ {n m : ℕ} (shape : BankShape) (pace : Pace) (e : ℕ) (now : List (TimedEvent n m)) (t line : ℕ) where
  asked_more : (zs : List (TimedEvent n m)) (h : Happens n) (row : ℕ) → Wrote (core zs) row line → Wrote (core_of h (core zs)) row line
  asked_more zs (Core (Write at k bytes given answer)) row a = inr a
  asked_more zs _ row a = a

  module _ (zs : List (TimedEvent n m)) (x : TimedEvent n m) (r : 1 ≤ pace.read) (i : 1 ≤ pace.iter) (l : Lawful shape pace e zs) where
    on : (h : Happens n) → Storeless h → NoneStored shape now (outcome_of shape zs) → HasHead line (queue shape (core_of h (core zs))) → LineFirstBy shape now t line zs x.tick h
    on h less none head = inl (head, λ row u p unset s. none row u p unset (none_new shape pace e zs x h row u p less s))

    store : (at place : ℕ) (es : List (Entry n)) → es ≡ queue shape (core zs) → IsHead es at → HasHead line es → Wrote (core zs) at line
    store at place es is head has = (is_covered shape pace e zs r i l).asked at line (subst (λ (es : List (Entry n)). Stands es at line) is (line-stands es at line head has))

    none_at : (at place : ℕ) → NoneStored shape now (outcome_of shape zs) → NoneBelow shape now x.tick (λ row. unwrap_or (on_row at row (out.Stored x.tick place)) (outcome_of shape zs row))
    none_at at place none row u p unset s = by (stored_tick at row x.tick place (outcome_of shape zs row) u p s)
      where
        by : ((true ≡ true) × (u ≡ x.tick)) ⊎ (outcome_of shape zs row ≡ out.Stored u p) → x.tick ≤ u
        by (inl is) = omega (arith, is.1)
        by (inr s) = absurd (none row u p unset s)

    own_stored : (at place : ℕ) → unwrap_or (on_row at at (out.Stored x.tick place)) (outcome_of shape zs at) ≡ out.Stored x.tick place
    own_stored at place = ap (λ b. unwrap_or (cond b (Some (out.Stored x.tick place)) None) (outcome_of shape zs at)) (eq-eqb at at refl)

    line_head : (h : Happens n) → MayCome shape pace e zs x h → (ends_action h ≡ true → t < x.tick) → HasHead line (queue shape (core zs)) → NoneStored shape now (outcome_of shape zs) → LineFirstBy shape now t line zs x.tick h
    line_head (Core (Write at k bytes given wrote.Accepted)) may above head none = on (Core (Write at k bytes given wrote.Accepted)) tt none (line-pushed (queue shape (core zs)) _ line head)
    line_head (Core (Write at k bytes given (wrote.Merged old))) may above head none = on (Core (Write at k bytes given (wrote.Merged old))) tt none (line-merged old at bytes given (queue shape (core zs)) line head)
    line_head (Core (Begin (did.Stored at place))) may above head none =
        inr (record {
          row = at;
          at = x.tick;
          place = place;
          asked = store at place (queue shape (core zs)) refl (stored-head shape (core zs) at place may.may.1) head;
          stored = own_stored at place;
          after = above refl;
          by_now = omega arith;
          none = none_at at place none;
        })
    line_head (Core (Begin answer)) may above head none = on (Core (Begin answer)) tt none (line-begun (due_after shape (core zs)) (newest (core zs)) (queue shape (core zs)) line head)
    line_head (Core (Iterate (did.Stored at place))) may above head none =
        inr (record {
          row = at;
          at = x.tick;
          place = place;
          asked = store at place (queue shape (core zs)) refl (stored-head shape (core zs) at place may.may.1) head;
          stored = own_stored at place;
          after = above refl;
          by_now = omega arith;
          none = none_at at place none;
        })
    line_head h may above head none = on h tt none head

    line_step : (h : Happens n) → MayCome shape pace e zs x h → (ends_action h ≡ true → t < x.tick) → last_tick zs ≤ x.tick → LineFirst shape now t line zs → LineFirstBy shape now t line zs x.tick h
    line_step h may above rises (inl there) = line_head h may above there.0 there.1
    line_step h may above rises (inr s) =
        inr (record {
          row = s.row;
          at = s.at;
          place = s.place;
          asked = asked_more zs h s.row s.asked;
          stored = step_stays shape pace e zs x h s.row l (opens shape pace e zs l) may (λ un. let both : ◌≡◌ {A = Outcome n} (out.Stored s.at s.place) out.Unset = sym s.stored ∙ un in absurd (cc)) ∙ s.stored;
          after = s.after;
          by_now = omega (arith, s.by_now, rises);
          none = λ row u p unset k. by row u p unset (stored_by shape pace e zs x h row u p k);
        })
      where
        by : (row u p : ℕ) → outcome_of shape now row ≡ out.Unset → ((ends_action h ≡ true) × (u ≡ x.tick)) ⊎ (outcome_of shape zs row ≡ out.Stored u p) → s.at ≤ u
        by row u p unset (inl is) = omega (arith, s.by_now, rises, is.1)
        by row u p unset (inr k) = s.none row u p unset k

  -- over any later events
  pub line_first : (later zs : List (TimedEvent n m)) → 1 ≤ pace.read → 1 ≤ pace.iter → Lawful shape pace e (later ++ zs) → EndsAbove t later → LineFirst shape now t line zs → LineFirst shape now t line (later ++ zs)
  line_first [] zs r i l ends f = f
  line_first (x ∷ later) zs r i l ends f =
      by (line_step (later ++ zs) x r i l.1 x.happens l.0 ends.0 (last_tick-rises shape pace e (later ++ zs) x r i l) (line_first later zs r i l.1 ends.1 f))
    where
      by : LineFirstBy shape now t line (later ++ zs) x.tick x.happens → LineFirst shape now t line (x ∷ later ++ zs)
      by (inl there) = inl there
      by (inr s) = inr (record { row = s.row; at = s.at; place = s.place; asked = s.asked; stored = s.stored; after = s.after; by_now = s.by_now; none = s.none })

module _ {n m : ℕ} (shape : BankShape) (all now : List (TimedEvent n m)) (k : StandsWell shape all now) (line : ℕ) where
  -- where none is stored before a line's next store, or at all, the line is first
  line_before : (found : Option ℕ) (ws : List (Written n)) → Each (λ w. IsEntry shape all now w) ws → NoneStored shape now (outcome_of shape all) → is_first line found (items ws) ≡ true
  line_before None (w ∷ ws) each none =
      and_from (w.line == line || not (is_stored w.outcome)) _
      (or_right (w.line == line) _ (ap (λ (o : Outcome n). not (is_stored o)) each.0.fate ∙ not_stored_ended w.tick (outcome_of shape all w.row) (λ u p s. none w.row u p (entry_unset shape all now k w each.0) s)))
      (line_before None ws each.1 none)
  line_before (Some v) (w ∷ ws) each none =
      and_from (w.line == line || not (stored_before v w.outcome)) _
      (or_right (w.line == line) _
      (ap (λ (o : Outcome n). not (stored_before v o)) each.0.fate ∙ not_before_ended w.tick v (outcome_of shape all w.row) (λ u p s. absurd (none w.row u p (entry_unset shape all now k w each.0) s))))
      (line_before (Some v) ws each.1 none)
  line_before _ _ each none = refl

  line_until : (v at : ℕ) (ws : List (Written n)) → Each (λ w. IsEntry shape all now w) ws → v ≤ at → NoneBelow shape now at (outcome_of shape all) → is_first line (Some v) (items ws) ≡ true
  line_until v at [] each le none = refl
  line_until v at (w ∷ ws) each le none =
      and_from (w.line == line || not (stored_before v w.outcome)) _
      (or_right (w.line == line) _
      (ap (λ (o : Outcome n). not (stored_before v o)) each.0.fate
      ∙ not_before_ended w.tick v (outcome_of shape all w.row) (λ u p s. let above : at ≤ u = none w.row u p (entry_unset shape all now k w each.0) s in omega (arith, le, above))))
      (line_until v at ws each.1 le none)

  pub line_is_first : (t : ℕ) (rows : List (Row n)) (ws : List (Written n)) → Each (λ w. IsEntry shape all now w) ws → LineFirst shape now t line all
      → ((s : IsStoredFirst shape now t line all) → HasStore line s.at rows) → is_first line (next_store t line rows) (items ws) ≡ true
  line_is_first t rows ws each (inl there) has = line_before (next_store t line rows) ws each there.1
  line_is_first t rows ws each (inr s) has =
      let f = next_found t line s.at rows (has s) s.after in
      ap (λ found. is_first line found (items ws)) f.1 ∙ line_until f.0 s.at ws each f.2 s.none

-- an entry of the queue is among the writes that stand
pub any_entry : {n m : ℕ} (shape : BankShape) (all : List (TimedEvent n m)) (p : ℕ → Bool) (row line : ℕ) (ys : List (TimedEvent n m)) → p row ≡ true → Wrote (core ys) row line → list_any (write_of line) (items (standing p (written shape all ys))) ≡ true
any_entry shape all p row line [] hit a = absurd a
any_entry {n} {m} shape all p row line (y ∷ ys) hit a = by y.happens (λ k. any_entry shape all p row line ys hit k) a
  where
    more : (b : Bool) (w : Written n) (ws : List (Written n)) → list_any (write_of line) (items ws) ≡ true → list_any (write_of line) (items (cond b (w ∷ ws) ws)) ≡ true
    more true w ws h = or_right (w.line == line) _ h
    more false w ws h = h

    own : (b : Bool) (w : Written n) (ws : List (Written n)) → b ≡ true → (w.line == line) ≡ true → list_any (write_of line) (items (cond b (w ∷ ws) ws)) ≡ true
    own true w ws h is = or_left (w.line == line) _ is
    own false w ws h is = absurd (cc)

    by : (h : Happens n) → (Wrote (core ys) row line → list_any (write_of line) (items (standing p (written shape all ys))) ≡ true) → Wrote (core_of h (core ys)) row line
        → list_any (write_of line) (items (standing p (written_by shape all h y.tick ++ written shape all ys))) ≡ true
    by h go a = grind arith
