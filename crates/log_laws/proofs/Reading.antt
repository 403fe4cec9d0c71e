-- A row that was read has a sense of its place at its tick, over which the bytes of the queue give those that were read.
use Rattle.std.proofs.Common.{◌≡◌, ◌≢◌, ℕ, ◌<◌, ◌≤◌, ◌==◌, ◌⊎◌, inl, inr, Bool, true, false, List, [], ◌∷◌, ◌++◌, Some, None, drop, refl, sym, ap, ◌∙◌, subst, arith, cond, eqb, eq-eqb, eqb-true}
use Rattle.std.{specs.Prelude.{All, map, unwrap_or}, proofs.lemmas.List.Elements.All-head}
use Rattle.masked_bytes.{specs.Masked.laid, proofs.Layering.laid-over, proofs.Truth.{neither_first, neither_second}}
use Rattle.cell_rows.specs.declared.array.Sense.{Sense}
use Rattle.ecp_line.specs.Reading.{decode}
use Rattle.result_rows.specs.declared.Outcome.{Outcome}
use Rattle.result_rows.specs.declared.Outcome.TheVariants as out
use Rattle.row_rules.specs.Serving.{same_bytes}
use Rattle.bank_shape.specs.{declared.BankShape.BankShape, declared.answer.Served.Served, declared.pace.Pace.Pace}
use Rattle.bank_shape.specs.declared.answer.WriteAnswer.TheVariants as wrote
use Rattle.bank_shape.specs.declared.answer.ReadAnswer.TheVariants as came
use Rattle.bank_shape.specs.declared.answer.Step.TheVariants as did
use Rattle.bank_model.specs.{Adding.senses_of, After.stands_at_after, Answers.IsServed, Events.{Write, Read, Serve, Begin, Iterate, Cut, RowsBelow}, History.{Awaited, waits}}
use Rattle.bank_model.specs.{Lawful.{Lawful, MayCome}, Sensing.{pulses_of, stand_of, IsLaid, IsReadRight}, Timing.{Happens, Core, TimedEvent, core, core_of}}
use Rattle.right_runs.specs.Logs.{is_sensed}
use Rattle.bank_laws.{specs.Outcomes.{on_row, outcome_with, outcome_of}, specs.Standing.has_wait, proofs.Serves.same_bytes-same, proofs.Settling.opens, proofs.Standing.stand_apart}
use Rattle.log_laws.proofs.{Naming.rows_below-end, Outing.core-append, Storing.{one_sense, now-sensed, older-sensed}}

-- a read that waits with this one's row is this one
abbrev pub OnlyOne : Awaited → List Awaited → Type 0
OnlyOne mine [] = Unit {0}
OnlyOne mine (w ∷ ws) = (w.row ≡ mine.row → w ≡ mine) × OnlyOne mine ws

only-push : (mine w : Awaited) (ws : List Awaited) → OnlyOne mine ws → (w.row ≡ mine.row → w ≡ mine) → OnlyOne mine (ws ++ w ∷ [])
only-push mine w [] k new = (new, tt)
only-push mine w (v ∷ ws) k new = (k.0, only-push mine w ws k.1 new)

only-drop : (mine : Awaited) (ws : List Awaited) → OnlyOne mine ws → OnlyOne mine (drop 1 ws)
only-drop mine ws k = grind arith

only-lacks : (mine : Awaited) (ws : List Awaited) → has_wait ws mine.row ≡ false → OnlyOne mine ws
only-lacks mine [] lacks = tt
only-lacks mine (w ∷ ws) lacks = (
  λ same. absurd (cc (eq-eqb w.row mine.row same, neither_first (w.row == mine.row) _ lacks)),
  only-lacks mine ws (neither_second (w.row == mine.row) _ lacks),
)

module _ {n : ℕ} where
  -- another outcome than a read leaves a read as it was
  not_read : (at row : ℕ) (t o : Outcome n) (u p : ℕ) (bytes : List ℕ) → t ≢ out.Read u p bytes → unwrap_or (on_row at row t) o ≡ out.Read u p bytes → o ≡ out.Read u p bytes
  not_read at row t o u p bytes ne s = by (eqb at row) s
    where
      by : (b : Bool) → unwrap_or (cond b (Some t) None) o ≡ out.Read u p bytes → o ≡ out.Read u p bytes
      by true s = absurd (ne s)
      by false s = s

  lost_not_read : (b : Bool) (tick : ℕ) (o : Outcome n) (u p : ℕ) (bytes : List ℕ) → unwrap_or (cond b (Some (out.Lost tick)) None) o ≡ out.Read u p bytes → o ≡ out.Read u p bytes
  lost_not_read b tick o u p bytes s = grind arith

  read_now : (at row tick place : ℕ) (some : List ℕ) (o : Outcome n) (u p : ℕ) (bytes : List ℕ) → unwrap_or (on_row at row (out.Read tick place some)) o ≡ out.Read u p bytes
      → ((at ≡ row) × (tick ≡ u) × (place ≡ p) × (some ≡ bytes)) ⊎ (o ≡ out.Read u p bytes)
  read_now at row tick place some o u p bytes s = by (eqb at row) refl s
    where
      by : (b : Bool) → eqb at row ≡ b → unwrap_or (cond b (Some (out.Read tick place some)) None) o ≡ out.Read u p bytes → ((at ≡ row) × (tick ≡ u) × (place ≡ p) × (some ≡ bytes)) ⊎ (o ≡ out.Read u p bytes)
      by true is s = inl (eqb-true at row is, cc, cc, cc)
      by false is s = inr s

module _ {n m : ℕ} (shape : BankShape) where
  -- the event answers the row, at its tick
  abbrev pub AnswersNow : TimedEvent n m → Happens n → ℕ → ℕ → ℕ → List ℕ → Type 0
  AnswersNow y (Core (Serve answer)) row u p bytes = (answer.row ≡ row) × (y.tick ≡ u) × (answer.place ≡ p) × (answer.bytes ≡ bytes)
  AnswersNow y h row u p bytes = ⊥

  answers-now : (zs : List (TimedEvent n m)) (y : TimedEvent n m) (h : Happens n) (row u p : ℕ) (bytes : List ℕ) → unwrap_or (outcome_with shape zs h y.tick row) (outcome_of shape zs row) ≡ out.Read u p bytes
      → AnswersNow y h row u p bytes ⊎ (outcome_of shape zs row ≡ out.Read u p bytes)
  answers-now zs y (Core (Write at line some given (wrote.Merged old))) row u p bytes s = inr (not_read old row _ _ u p bytes (λ is. absurd (cc)) s)
  answers-now zs y (Core (Write at line some given wrote.Full)) row u p bytes s = inr (not_read at row _ _ u p bytes (λ is. absurd (cc)) s)
  answers-now zs y (Core (Write at line some given wrote.Exhausted)) row u p bytes s = inr (not_read at row _ _ u p bytes (λ is. absurd (cc)) s)
  answers-now zs y (Core (Read at line came.Busy)) row u p bytes s = inr (not_read at row _ _ u p bytes (λ is. absurd (cc)) s)
  answers-now zs y (Core (Read at line (came.Forwarded some))) row u p bytes s = inr (not_read at row _ _ u p bytes (λ is. absurd (cc)) s)
  answers-now zs y (Core (Serve answer)) row u p bytes s = read_now answer.row row y.tick answer.place answer.bytes _ u p bytes s
  answers-now zs y (Core (Begin (did.Stored at place))) row u p bytes s = inr (not_read at row _ _ u p bytes (λ is. absurd (cc)) s)
  answers-now zs y (Core (Iterate (did.Stored at place))) row u p bytes s = inr (not_read at row _ _ u p bytes (λ is. absurd (cc)) s)
  answers-now zs y (Core (Cut tearing)) row u p bytes s = inr (lost_not_read (has_wait (waits shape (core zs)) row) y.tick _ u p bytes s)
  answers-now zs y _ row u p bytes s = inr s

module _ {n m : ℕ} (shape : BankShape) (pace : Pace) (e : ℕ) (mine : Awaited) where
  -- a read's row is above those before, so its wait stays the only one
  only-next : (zs : List (TimedEvent n m)) (y : TimedEvent n m) (h : Happens n) → MayCome shape pace e zs y h → ((row : ℕ) → RowsBelow (core zs) row → mine.row < row) → OnlyOne mine (waits shape (core zs)) → OnlyOne mine (waits shape (core_of h (core zs)))
  only-next zs y (Core (Read row line came.Waiting)) may above k =
      only-push mine _ (waits shape (core zs)) k (λ same. let lt : mine.row < row = above row may.asked in absurd (omega (arith, same, lt)))
  only-next zs y (Core (Serve answer)) may above k = only-drop mine (waits shape (core zs)) k
  only-next zs y (Core (Cut tearing)) may above k = tt
  only-next zs y _ may above k = k

  -- what the serve of a read sensed
  record ServedSense (y : TimedEvent n m) (p : ℕ) (bytes : List ℕ) : Type 0 where
    sense : Sense n m
    are : y.senses ≡ sense ∷ []
    line : sense.line ≡ p
    tick : sense.tick ≡ y.tick
    over : bytes ≡ laid mine.kept mine.given (decode e sense.cells)
    owed : bytes ≡ mine.newest

  served_first : (zs : List (TimedEvent n m)) (y : TimedEvent n m) (answer : Served n) (ws : List Awaited) → IsServed shape (core zs) ws answer → OnlyOne mine ws → answer.row ≡ mine.row
      → map (λ s. s.line) y.senses ≡ stand_of shape (core zs) ws → All (λ s. (s.tick ≡ y.tick) × (s.pulses ≡ pulses_of (y ∷ zs) s.line)) y.senses
      → ((s : Sense n m) → y.senses ≡ s ∷ [] → IsLaid e ws answer.bytes s.cells) → ServedSense y answer.place answer.bytes
  served_first zs y answer [] served only same lines all right = absurd served
  served_first zs y answer (w ∷ ws) served only same lines all right =
      let is : w ≡ mine = only.0 (sym served.0 ∙ same) in
      let k = one_sense y.senses (stands_at_after shape (core zs) w.line) lines in
      record {
        sense = k.0;
        are = k.1;
        line = k.2 ∙ sym served.1;
        tick = (All-head (λ (s : Sense n m). (s.tick ≡ y.tick) × (s.pulses ≡ pulses_of (y ∷ zs) s.line)) k.0 [] (subst (λ (ss : List (Sense n m)). All (λ s. (s.tick ≡ y.tick) × (s.pulses ≡ pulses_of (y ∷ zs) s.line)) ss) k.1 all)).0;
        over = right k.0 k.1 ∙ ap (λ (w : Awaited). laid w.kept w.given (decode e (k.0).cells)) is;
        owed = served.2 ∙ ap (λ (w : Awaited). w.newest) is;
      }

  served-sense : (zs : List (TimedEvent n m)) (y : TimedEvent n m) (h : Happens n) (u p : ℕ) (bytes : List ℕ) → MayCome shape pace e zs y h → OnlyOne mine (waits shape (core zs)) → AnswersNow shape y h mine.row u p bytes → (y.tick ≡ u) × ServedSense y p bytes
  served-sense zs y (Core (Serve answer)) u p bytes may only s = (
    s.1,
    subst (λ b. ServedSense y p b) s.3
        (subst (λ l. ServedSense y l answer.bytes) s.2
        (served_first zs y answer (waits shape (core zs)) may.may only s.0 may.lines may.senses (λ sense are. subst (λ ss. IsReadRight e shape zs (Serve answer) ss) are may.right))),
  )
  served-sense zs y _ u p bytes may only s = absurd s

  module _ (x : TimedEvent n m) (ys : List (TimedEvent n m)) (line : ℕ) (is : x.happens ≡ Core (Read mine.row line came.Waiting)) (waiting : waits shape (core (x ∷ ys)) ≡ waits shape (core ys) ++ mine ∷ []) where
    asked : Lawful shape pace e (x ∷ ys) → RowsBelow (core ys) mine.row
    asked l = (subst (λ h. MayCome shape pace e ys x h) is l.0).asked

    only-in : (mid : List (TimedEvent n m)) → Lawful shape pace e (mid ++ x ∷ ys) → OnlyOne mine (waits shape (core (mid ++ x ∷ ys)))
    only-in [] l =
        subst (λ ws. OnlyOne mine ws) (sym waiting)
        (only-push mine mine (waits shape (core ys)) (only-lacks mine (waits shape (core ys)) ((stand_apart shape (core ys) mine.row (asked l)).waiting_below mine.row (omega arith))) (λ same. refl))
    only-in (y ∷ mid) l =
        only-next (mid ++ x ∷ ys) y y.happens l.0
        (λ row below.
        let low = rows_below-end (core mid) (core (x ∷ ys)) row (subst (λ h. RowsBelow h row) (core-append mid (x ∷ ys)) below) in
        let here : RowsBelow (Read mine.row line came.Waiting ∷ core ys) low.0 = subst (λ h. RowsBelow (core_of h (core ys)) low.0) is low.1 in
        let lt : mine.row < low.0 = here.0 in
        let le : low.0 ≤ row = low.2 in
        omega (arith, lt, le)) (only-in mid l.1)

    -- a read that waited and was read has its sense
    pub read-sensed : (mid : List (TimedEvent n m)) → Lawful shape pace e (mid ++ x ∷ ys) → (u p : ℕ) (bytes : List ℕ) → outcome_of shape (mid ++ x ∷ ys) mine.row ≡ out.Read u p bytes
        → is_sensed (decode e) (senses_of (mid ++ x ∷ ys)) p u (λ under. same_bytes bytes (laid mine.newest mine.given under)) ≡ true
    read-sensed [] l u p bytes s =
        by (answers-now shape ys x (Core (Read mine.row line came.Waiting)) mine.row u p bytes (subst (λ h. unwrap_or (outcome_with shape ys h x.tick mine.row) (outcome_of shape ys mine.row) ≡ out.Read u p bytes) is s))
      where
        by : ⊥ ⊎ (outcome_of shape ys mine.row ≡ out.Read u p bytes) → is_sensed (decode e) (senses_of (x ∷ ys)) p u (λ under. same_bytes bytes (laid mine.newest mine.given under)) ≡ true
        by (inl k) = absurd k
        by (inr k) = let j : ◌≡◌ {A = Outcome n} out.Unset (out.Read u p bytes) = sym ((opens shape pace e ys l.1).coming mine.row (asked l)) ∙ k in absurd (cc)
    read-sensed (y ∷ mid) l u p bytes s =
        by (answers-now shape (mid ++ x ∷ ys) y y.happens mine.row u p bytes s) (read-sensed mid l.1 u p bytes)
      where
        by : AnswersNow shape y y.happens mine.row u p bytes ⊎ (outcome_of shape (mid ++ x ∷ ys) mine.row ≡ out.Read u p bytes)
            → (outcome_of shape (mid ++ x ∷ ys) mine.row ≡ out.Read u p bytes → is_sensed (decode e) (senses_of (mid ++ x ∷ ys)) p u (λ under. same_bytes bytes (laid mine.newest mine.given under)) ≡ true)
            → is_sensed (decode e) (senses_of (y ∷ mid ++ x ∷ ys)) p u (λ under. same_bytes bytes (laid mine.newest mine.given under)) ≡ true
        by (inl now) rest =
            let k = served-sense (mid ++ x ∷ ys) y y.happens u p bytes l.0 (only-in mid l.1) now in
            let w = k.1 in
            let gives : bytes ≡ laid mine.newest mine.given (decode e w.sense.cells) =
            w.over ∙ sym (laid-over mine.kept mine.given (decode e w.sense.cells)) ∙ ap (λ b. laid b mine.given (decode e w.sense.cells)) (sym w.over ∙ w.owed) in
            now-sensed (decode e) (mid ++ x ∷ ys) y w.sense p u (λ under. same_bytes bytes (laid mine.newest mine.given under)) w.are w.line (w.tick ∙ k.0) (same_bytes-same bytes _ gives)
        by (inr before) rest = older-sensed (decode e) (mid ++ x ∷ ys) y p u (λ under. same_bytes bytes (laid mine.newest mine.given under)) (rest before)
