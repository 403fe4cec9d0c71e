-- The stores by the rows' outcomes are those by the events.
use Rattle.std.proofs.Common.{◌≡◌, ℕ, ◌+◌, ◌/◌, ◌<◌, ◌≤◌, ◌==◌, ◌&&◌, ◌⊎◌, inl, inr, Bool, true, false, List, [], ◌∷◌, ◌++◌, Some, None, refl, sym, ap, ◌∙◌, subst, arith, cond, eqb, eqb-true, append_assoc}
use Rattle.std.{specs.Prelude.{unwrap_or, nat_lt}, proofs.lemmas.Bool.{lt-ltb, le-ltb}}
use Rattle.result_rows.specs.declared.Outcome.{Outcome}
use Rattle.result_rows.specs.declared.Outcome.TheVariants as out
use Rattle.row_rules.specs.Answers.{is_stored, stored_before}
use Rattle.bank_shape.specs.{declared.BankShape.BankShape, declared.pace.Pace.Pace}
use Rattle.bank_shape.specs.declared.answer.WriteAnswer.TheVariants as wrote
use Rattle.bank_shape.specs.declared.answer.ReadAnswer.TheVariants as came
use Rattle.bank_shape.specs.declared.answer.Step.TheVariants as did
use Rattle.bank_model.specs.{Events.{BankEvent, Write, Read, Serve, Begin, Iterate, Cut, RowsBelow, line_of_row}, History.{queue, waits, stored_in}, Lawful.{Lawful, MayCome}}
use Rattle.bank_model.{specs.Sensing.most_steps, specs.Timing.{Happens, Core, TimedEvent, core, core_of, last_tick}, proofs.Rising.RowsBelow-more}
use Rattle.bank_laws.specs.{Outcomes.{on_row, outcome_with, outcome_of}, Settling.AreOpen, Standing.has_wait, Ticks.ends_action}
use Rattle.bank_laws.proofs.{Answering.{merged-there, served-first, first-there}, Asked.{queue-wrote, wrote-line}, Ending.own_row, Later.last-later, Lines.stands-row}
use Rattle.bank_laws.proofs.{Settling.{opens, above_all, lawful_before, stays}, Ticks.{last_tick-rises, last-below}, Waiting.may_all, Wears.{stored_by, stored_up_to}}
use Rattle.place_laws.proofs.{Counts.{writes_with, stores_with, writes-same, writes-more}, Working.{IsStoreOf, done-store}}
use Rattle.masked_bytes.proofs.Counting.{one_if}

pub none_first : (k b : Bool) (rest all : ℕ) → b ≡ false → rest ≡ all → one_if (k && b) + rest ≡ all
none_first true true rest all isnt is = absurd (cc)
none_first _ _ rest all isnt is = omega (arith, is)

module _ {n : ℕ} where
  -- another answer than a store, to a row that is not stored
  other_kept : (at row : ℕ) (t : Outcome n) (f : ℕ → Outcome n) → is_stored t ≡ false → f at ≡ out.Unset → is_stored (unwrap_or (on_row at row t) (f row)) ≡ is_stored (f row)
  other_kept at row t f isnt unset = by (eqb at row) refl
    where
      by : (b : Bool) → eqb at row ≡ b → is_stored (unwrap_or (cond b (Some t) None) (f row)) ≡ is_stored (f row)
      by true is = isnt ∙ sym (ap is_stored (subst (λ r. f r ≡ out.Unset) (eqb-true at row is) unset))
      by false is = refl

  lost_kept : (b : Bool) (tick : ℕ) (o : Outcome n) → (b ≡ true → o ≡ out.Unset) → is_stored (unwrap_or (cond b (Some (out.Lost tick)) None) o) ≡ is_stored o
  lost_kept true tick o unset = sym (ap is_stored (unset refl))
  lost_kept false tick o unset = refl

  -- stored below a tick, in the end, where it was stored by then
  none_before : (t : ℕ) (o last : Outcome n) → is_stored o ≡ false → ((u p : ℕ) → last ≡ out.Stored u p → (t ≤ u) ⊎ (o ≡ out.Stored u p)) → stored_before t last ≡ false
  none_before t o (out.Stored u p) isnt from = by (from u p refl)
    where
      by : (t ≤ u) ⊎ (o ≡ out.Stored u p) → nat_lt u t ≡ false
      by (inl le) = le-ltb u t le
      by (inr is) = absurd (cc (ap is_stored is))
  none_before t o _ isnt from = refl

  stored_agrees : (t : ℕ) (o last : Outcome n) → ((u p : ℕ) → o ≡ out.Stored u p → (last ≡ out.Stored u p) × (u < t))
      → ((u p : ℕ) → last ≡ out.Stored u p → (t ≤ u) ⊎ (o ≡ out.Stored u p)) → stored_before t last ≡ is_stored o
  stored_agrees t (out.Stored u p) last keeps from = let k = keeps u p refl in ap (stored_before t) k.0 ∙ lt-ltb u t k.1
  stored_agrees t answer last keeps from = none_before t answer last refl from

  -- the stores of a region
  pub region-stored : (lines : ℕ) (h : List (BankEvent n)) (region : ℕ) → stores_with (λ line. line / lines == region) h ≡ stored_in lines h region
  region-stored lines [] region = refl
  region-stored lines (Begin (did.Stored row place) ∷ h) region = ap (λ k. one_if (line_of_row row h / lines == region) + k) (region-stored lines h region)
  region-stored lines (Iterate (did.Stored row place) ∷ h) region = ap (λ k. one_if (line_of_row row h / lines == region) + k) (region-stored lines h region)
  region-stored lines (_ ∷ h) region = region-stored lines h region

module _ {n m : ℕ} (shape : BankShape) (pace : Pace) (e : ℕ) where
  -- one more store
  store-counted : (keep : ℕ → Bool) (zs : List (TimedEvent n m)) (tick row place : ℕ) → Lawful shape pace e zs → IsStoreOf shape (core zs) row place
      → writes_with keep (λ r. is_stored (outcome_of shape zs r)) (core zs) ≡ stores_with keep (core zs)
      → writes_with keep (λ r. is_stored (unwrap_or (on_row row r (out.Stored tick place)) (outcome_of shape zs r))) (core zs) ≡ one_if (keep (line_of_row row (core zs))) + stores_with keep (core zs)
  store-counted keep zs tick row place l store ih =
      let b = above_all shape pace e zs l in
      let w = queue-wrote shape (most_steps e) (core zs) b.0 row store.line (may_all shape pace e zs l) b.1 store.stands in
      let more : writes_with keep (λ r. is_stored (unwrap_or (on_row row r (out.Stored tick place)) (outcome_of shape zs r))) (core zs)
      ≡ writes_with keep (λ r. is_stored (outcome_of shape zs r)) (core zs) + one_if (keep store.line) =
      writes-more keep (λ r. is_stored (outcome_of shape zs r)) (λ r. is_stored (unwrap_or (on_row row r (out.Stored tick place)) (outcome_of shape zs r))) (core zs) b.0 row store.line b.1 w
      (ap is_stored ((opens shape pace e zs l).queued row (stands-row (queue shape (core zs)) row store.line store.stands)))
      (ap is_stored (own_row row (out.Stored tick place) (outcome_of shape zs row)))
      (λ r other. ap (λ b. is_stored (unwrap_or (cond b (Some (out.Stored tick place)) None) (outcome_of shape zs r))) other) in
      let its : one_if (keep (line_of_row row (core zs))) ≡ one_if (keep store.line) = ap (λ k. one_if (keep k)) (wrote-line (core zs) b.0 row store.line b.1 w) in
      omega (arith, more, its, ih)

  -- as many writes of such lines are stored by their outcomes as by the events
  pub stored-counted : (keep : ℕ → Bool) (zs : List (TimedEvent n m)) → Lawful shape pace e zs → writes_with keep (λ row. is_stored (outcome_of shape zs row)) (core zs) ≡ stores_with keep (core zs)
  stored-counted keep [] l = refl
  stored-counted keep (x ∷ zs) l = by x.happens l.0 (opens shape pace e zs l.1) (stored-counted keep zs l.1)
    where
      same : (h : Happens n) → ((row : ℕ) → is_stored (unwrap_or (outcome_with shape zs h x.tick row) (outcome_of shape zs row)) ≡ is_stored (outcome_of shape zs row))
          → writes_with keep (λ row. is_stored (outcome_of shape zs row)) (core zs) ≡ stores_with keep (core zs)
          → writes_with keep (λ row. is_stored (unwrap_or (outcome_with shape zs h x.tick row) (outcome_of shape zs row))) (core zs) ≡ stores_with keep (core zs)
      same h each ih =
          writes-same keep (λ row. is_stored (unwrap_or (outcome_with shape zs h x.tick row) (outcome_of shape zs row))) (λ row. is_stored (outcome_of shape zs row)) (core zs) each ∙ ih

      by : (h : Happens n) → MayCome shape pace e zs x h → AreOpen shape zs → writes_with keep (λ row. is_stored (outcome_of shape zs row)) (core zs) ≡ stores_with keep (core zs)
          → writes_with keep (λ row. is_stored (unwrap_or (outcome_with shape zs h x.tick row) (outcome_of shape zs row))) (core_of h (core zs)) ≡ stores_with keep (core_of h (core zs))
      by (Core (Write at line bytes given wrote.Accepted)) may o ih =
          none_first (keep line) _ _ _ (ap is_stored (o.coming at may.asked)) ih
      by (Core (Write at line bytes given (wrote.Merged old))) may o ih =
          let each : (row : ℕ) → is_stored (unwrap_or (on_row old row (out.Merged x.tick)) (outcome_of shape zs row)) ≡ is_stored (outcome_of shape zs row) =
          λ row. other_kept old row (out.Merged x.tick) (outcome_of shape zs) refl (o.queued old (merged-there shape (core zs) line old may.may.2)) in
          none_first (keep line) _ _ _ (each at ∙ ap is_stored (o.coming at may.asked)) (same (Core (Write at line bytes given (wrote.Merged old))) each ih)
      by (Core (Write at line bytes given wrote.Full)) may o ih =
          let each : (row : ℕ) → is_stored (unwrap_or (on_row at row (out.Full x.tick)) (outcome_of shape zs row)) ≡ is_stored (outcome_of shape zs row) =
          λ row. other_kept at row (out.Full x.tick) (outcome_of shape zs) refl (o.coming at may.asked) in
          none_first (keep line) _ _ _ (each at ∙ ap is_stored (o.coming at may.asked)) (same (Core (Write at line bytes given wrote.Full)) each ih)
      by (Core (Write at line bytes given wrote.Exhausted)) may o ih =
          let each : (row : ℕ) → is_stored (unwrap_or (on_row at row (out.Worn x.tick)) (outcome_of shape zs row)) ≡ is_stored (outcome_of shape zs row) =
          λ row. other_kept at row (out.Worn x.tick) (outcome_of shape zs) refl (o.coming at may.asked) in
          none_first (keep line) _ _ _ (each at ∙ ap is_stored (o.coming at may.asked)) (same (Core (Write at line bytes given wrote.Exhausted)) each ih)
      by (Core (Read at line came.Busy)) may o ih =
          same (Core (Read at line came.Busy)) (λ row. other_kept at row (out.Busy x.tick) (outcome_of shape zs) refl (o.coming at may.asked)) ih
      by (Core (Read at line (came.Forwarded bytes))) may o ih =
          same (Core (Read at line (came.Forwarded bytes))) (λ row. other_kept at row (out.Forwarded x.tick bytes) (outcome_of shape zs) refl (o.coming at may.asked)) ih
      by (Core (Serve answer)) may o ih =
          same (Core (Serve answer)) (λ row. other_kept answer.row row (out.Read x.tick answer.place answer.bytes) (outcome_of shape zs) refl
          (o.waiting answer.row (first-there (waits shape (core zs)) answer.row (served-first shape (core zs) (waits shape (core zs)) answer may.may)))) ih
      by (Core (Begin (did.Stored at place))) may o ih = store-counted keep zs x.tick at place l.1 (done-store shape (core zs) at place may.may.1) ih
      by (Core (Iterate (did.Stored at place))) may o ih = store-counted keep zs x.tick at place l.1 (done-store shape (core zs) at place may.may.1) ih
      by (Core (Cut tearing)) may o ih = same (Core (Cut tearing)) (λ row. lost_kept (has_wait (waits shape (core zs)) row) x.tick (outcome_of shape zs row) (o.waiting row)) ih
      by _ may o ih = ih

  -- rows below those of later events
  rows_below-before : (later zs : List (TimedEvent n m)) (bound : ℕ) → RowsBelow (core (later ++ zs)) bound → RowsBelow (core zs) bound
  rows_below-before [] zs bound b = b
  rows_below-before (x ∷ later) zs bound b = by x.happens bound b (λ bound b. rows_below-before later zs bound b)
    where
      by : (h : Happens n) (bound : ℕ) → RowsBelow (core_of h (core (later ++ zs))) bound → ((bound : ℕ) → RowsBelow (core (later ++ zs)) bound → RowsBelow (core zs) bound) → RowsBelow (core zs) bound
      by (Core (Write row line bytes given answer)) bound b go = RowsBelow-more (core zs) row bound (omega (arith, b.0)) (go row b.1)
      by (Core (Read row line answer)) bound b go = RowsBelow-more (core zs) row bound (omega (arith, b.0)) (go row b.1)
      by _ bound b go = go bound b

  -- a test that fails for every later row counts the earlier ones
  later-counted : (keep f : ℕ → Bool) (later zs : List (TimedEvent n m)) → Lawful shape pace e (later ++ zs) → ((row : ℕ) → RowsBelow (core zs) row → f row ≡ false)
      → writes_with keep f (core (later ++ zs)) ≡ writes_with keep f (core zs)
  later-counted keep f [] zs l none = refl
  later-counted keep f (x ∷ later) zs l none = by x.happens l.0 (later-counted keep f later zs l.1 none)
    where
      by : (h : Happens n) → MayCome shape pace e (later ++ zs) x h → writes_with keep f (core (later ++ zs)) ≡ writes_with keep f (core zs) → writes_with keep f (core_of h (core (later ++ zs))) ≡ writes_with keep f (core zs)
      by (Core (Write row line bytes given answer)) may ih = none_first (keep line) (f row) _ _ (none row (rows_below-before later zs row may.asked)) ih
      by _ may ih = ih

  -- what is stored in the end was stored before an event, or at its tick or later
  stored-from : (later : List (TimedEvent n m)) (z : TimedEvent n m) (zs : List (TimedEvent n m)) (row u p : ℕ) → 1 ≤ pace.read → 1 ≤ pace.iter → Lawful shape pace e (later ++ z ∷ zs)
      → outcome_of shape (later ++ z ∷ zs) row ≡ out.Stored u p → (z.tick ≤ u) ⊎ (outcome_of shape zs row ≡ out.Stored u p)
  stored-from [] z zs row u p r i l s = by (stored_by shape pace e zs z z.happens row u p s)
    where
      by : ((ends_action z.happens ≡ true) × (u ≡ z.tick)) ⊎ (outcome_of shape zs row ≡ out.Stored u p) → (z.tick ≤ u) ⊎ (outcome_of shape zs row ≡ out.Stored u p)
      by (inl now) = inl (omega (arith, now.1))
      by (inr before) = inr before
  stored-from (x ∷ later) z zs row u p r i l s =
      by (stored_by shape pace e (later ++ z ∷ zs) x x.happens row u p s)
      (last_tick-rises shape pace e (later ++ z ∷ zs) x r i l)
      (last-later shape pace e later (z ∷ zs) r i l.1) (λ s. stored-from later z zs row u p r i l.1 s)
    where
      by : ((ends_action x.happens ≡ true) × (u ≡ x.tick)) ⊎ (outcome_of shape (later ++ z ∷ zs) row ≡ out.Stored u p) → last_tick (later ++ z ∷ zs) ≤ x.tick → z.tick ≤ last_tick (later ++ z ∷ zs)
          → (outcome_of shape (later ++ z ∷ zs) row ≡ out.Stored u p → (z.tick ≤ u) ⊎ (outcome_of shape zs row ≡ out.Stored u p)) → (z.tick ≤ u) ⊎ (outcome_of shape zs row ≡ out.Stored u p)
      by (inl now) rises up go = inl (omega (arith, now.1, rises, up))
      by (inr before) rises up go = go before

  module _ (all later : List (TimedEvent n m)) (z : TimedEvent n m) (zs : List (TimedEvent n m)) (r : 1 ≤ pace.read) (i : 1 ≤ pace.iter) (l : Lawful shape pace e all) (same : all ≡ later ++ z ∷ zs) (ends : ends_action z.happens ≡ true) where
    whole : Lawful shape pace e (later ++ z ∷ zs)
    whole = subst (λ (xs : List (TimedEvent n m)). Lawful shape pace e xs) same l

    here : Lawful shape pace e (z ∷ zs)
    here = lawful_before shape pace e later (z ∷ zs) whole

    split : (later ++ z ∷ []) ++ zs ≡ all
    split = append_assoc later (z ∷ []) zs ∙ sym same

    over : Lawful shape pace e ((later ++ z ∷ []) ++ zs)
    over = subst (λ (xs : List (TimedEvent n m)). Lawful shape pace e xs) (sym split) l

    -- the rows that are stored below the end of an action are those that were stored before it
    stored-same : (row : ℕ) → stored_before z.tick (outcome_of shape all row) ≡ is_stored (outcome_of shape zs row)
    stored-same row =
        stored_agrees z.tick (outcome_of shape zs row) (outcome_of shape all row)
        (λ u p s.
        let up : u ≤ last_tick zs = stored_up_to shape pace e zs row u p r i here.1 s in
        let below : last_tick zs < z.tick = last-below shape pace e zs z r i here ends in
        (sym (ap (λ xs. outcome_of shape xs row) split) ∙ stays shape pace e (later ++ z ∷ []) zs row over (λ un. let k : ◌≡◌ {A = Outcome n} (out.Stored u p) out.Unset = sym s ∙ un in absurd (cc)) ∙ s, omega (arith, up, below)))
        (λ u p s. stored-from later z zs row u p r i whole (sym (ap (λ xs. outcome_of shape xs row) same) ∙ s))

    -- as many as there were stores before it
    pub before-counted : (keep : ℕ → Bool) → writes_with keep (λ row. stored_before z.tick (outcome_of shape all row)) (core all) ≡ stores_with keep (core zs)
    before-counted keep =
        writes-same keep (λ row. stored_before z.tick (outcome_of shape all row)) (λ row. is_stored (outcome_of shape zs row)) (core all) stored-same
        ∙ ap (λ xs. writes_with keep (λ row. is_stored (outcome_of shape zs row)) (core xs)) (sym split)
        ∙ later-counted keep (λ row. is_stored (outcome_of shape zs row)) (later ++ z ∷ []) zs over (λ row below. ap is_stored ((opens shape pace e zs here.1).coming row below))
        ∙ stored-counted keep zs here.1
