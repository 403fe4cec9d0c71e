-- What the rows show of a line's writes in the queue as a read arrives is what the queue's entries give.
use Rattle.std.proofs.Common.{◌≡◌, ℕ, ◌<◌, ◌≤◌, ◌==◌, ◌&&◌, ◌⊎◌, inl, inr, Bool, true, false, List, [], ◌∷◌, ◌++◌, refl, sym, ap, ◌∙◌, subst, arith, cond, eqb-true, append_assoc}
use Rattle.std.{specs.List.list_any, proofs.lemmas.Bool.{le-leb, lt-leb, and_right, or_from}, proofs.lemmas.List.Folds.list_any-append}
use Rattle.result_rows.specs.declared.Outcome.{Outcome}
use Rattle.result_rows.specs.declared.Outcome.TheVariants as out
use Rattle.masked_bytes.specs.Masked.{joined, none_given, gives_all}
use Rattle.row_rules.specs.{Answers.{accepts, is_stored, stored_by}, Queueing.{unstored, cover}, Rows.write_of, declared.Row.Row}
use Rattle.bank_shape.specs.{declared.BankShape.BankShape, declared.answer.WriteAnswer.WriteAnswer, declared.pace.Pace.Pace}
use Rattle.bank_shape.specs.declared.answer.WriteAnswer.TheVariants as wrote
use Rattle.bank_model.specs.{Events.{Write, Cut}, History.queue, Lawful.{Lawful, MayCome}, Sensing.most_steps, Timing.{Happens, Core, TimedEvent, core, core_of, last_tick}}
use Rattle.bank_laws.specs.{Laws.IsSized, Outcomes.{outcome_of, ended, row_with, rows_from}, Settling.AreOpen, Ticks.ends_action}
use Rattle.bank_laws.proofs.{Ending.{Onwards, write_outcome, outcome-accepts}, Entries.either, Given.given_of, Later.{last-later, stored_above}, Serves.{may_at, onwards_at}}
use Rattle.bank_laws.proofs.{Settling.{opens, above_all, lawful_before, stays}, Ticks.last_tick-rises, Waiting.may_all, Walking.rows_after}
use Rattle.bank_laws.proofs.Wears.{stored_by as stored_by_event, stored_up_to}
use Rattle.log_laws.proofs.{Covering.{uncovered, uncovered_by, out_in, fits-after}, Fitting.fits-given, Outing.out-same}

module _ {n : ℕ} where
  stored-ended : (t tick : ℕ) (o : Outcome n) → stored_by t (ended tick o) ≡ stored_by t o
  stored-ended t tick o = grind arith

  -- what isn't accepted isn't stored
  refused-unstored : (t : ℕ) (o : Outcome n) → accepts o ≡ false → stored_by t o ≡ false
  refused-unstored t o k = grind arith

  -- a store above a tick isn't one by it
  above-unstored : (t : ℕ) (o : Outcome n) → ((u p : ℕ) → o ≡ out.Stored u p → t < u) → stored_by t o ≡ false
  above-unstored t (out.Stored at place) k = lt-leb at t (k at place refl)
  above-unstored t _ k = refl

  -- an outcome that is a store is one by a tick that it doesn't exceed
  below-stored : (t : ℕ) (o : Outcome n) → ((u p : ℕ) → o ≡ out.Stored u p → u ≤ t) → is_stored o ≡ true → stored_by t o ≡ true
  below-stored t (out.Stored at place) k s = le-leb at t (k at place refl)
  below-stored t _ k s = absurd (cc)

-- one write, by the rows and by the events
accepted_row : (n : ℕ) (own isout acc o : Bool) (given before rest : List Bool) → (own ≡ true → isout ≡ o) → acc ≡ true → before ≡ rest
    → cond (own && isout) (none_given n) (cond (own && acc) (joined given before) before) ≡ uncovered_by n own o given rest
accepted_row n false isout acc o given before rest out is same = same
accepted_row n true isout false o given before rest out is same = absurd (cc)
accepted_row n true isout true o given before rest out is same = ap (λ b. cond b (none_given n) (joined given before)) (out refl) ∙ ap (λ xs. cond o (none_given n) (joined given xs)) same

refused_row : (n : ℕ) (own isout acc : Bool) (given before rest : List Bool) → isout ≡ false → acc ≡ false → before ≡ rest
    → cond (own && isout) (none_given n) (cond (own && acc) (joined given before) before) ≡ rest
refused_row n own isout acc given before rest out is same = grind arith

module _ {n m : ℕ} (shape : BankShape) (pace : Pace) (e : ℕ) (all : List (TimedEvent n m)) (sized : IsSized shape pace) (l : Lawful shape pace e all) (o : AreOpen shape all) where
  -- what isn't stored after some events isn't stored by a tick up to which they come
  stored-late : (later zs : List (TimedEvent n m)) (row t : ℕ) → all ≡ later ++ zs → t ≤ last_tick zs → is_stored (outcome_of shape zs row) ≡ false → stored_by t (outcome_of shape all row) ≡ false
  stored-late later zs row t same le isnt =
      above-unstored t (outcome_of shape all row)
      (λ u p s.
      let lt : last_tick zs < u =
      stored_above shape pace e later zs row u p sized.read sized.iter (subst (λ (xs : List (TimedEvent n m)). Lawful shape pace e xs) same l)
      (λ k. absurd (cc (sym (ap is_stored k) ∙ isnt))) (sym (ap (λ xs. outcome_of shape xs row) same) ∙ s) in
      omega arith)

  module _ (later : List (TimedEvent n m)) (x : TimedEvent n m) (ys : List (TimedEvent n m)) (same : all ≡ later ++ x ∷ ys) (line : ℕ) (arrives : ends_action x.happens ≡ false) where
    whole : Lawful shape pace e (later ++ x ∷ ys)
    whole = subst (λ (xs : List (TimedEvent n m)). Lawful shape pace e xs) same l

    here : Lawful shape pace e (x ∷ ys)
    here = lawful_before shape pace e later (x ∷ ys) whole

    -- a write behind an arrival isn't stored by its tick
    behind : (pre mid : List (TimedEvent n m)) → all ≡ pre ++ (mid ++ x ∷ ys) → list_any (λ (q : Row n). write_of line q && stored_by x.tick q.outcome) (rows_after shape all mid) ≡ false
    behind pre [] is = refl
    behind pre (y ∷ mid) is =
        list_any-append (λ (q : Row n). write_of line q && stored_by x.tick q.outcome) (rows_after shape all mid) (row_with shape all y.happens y.tick y.cancels)
        ∙ or_from _ _ (behind (pre ++ y ∷ []) mid over) (row y.happens y.cancels refl)
      where
        over : all ≡ (pre ++ y ∷ []) ++ (mid ++ x ∷ ys)
        over = is ∙ sym (append_assoc pre (y ∷ []) (mid ++ x ∷ ys))

        now : Lawful shape pace e (y ∷ mid ++ x ∷ ys)
        now = lawful_before shape pace e pre (y ∷ mid ++ x ∷ ys) (subst (λ (xs : List (TimedEvent n m)). Lawful shape pace e xs) is l)

        coming : (at to : ℕ) (bytes : List ℕ) (given : List Bool) (answer : WriteAnswer) → y.happens ≡ Core (Write at to bytes given answer) → outcome_of shape (mid ++ x ∷ ys) at ≡ out.Unset
        coming at to bytes given answer its = (opens shape pace e (mid ++ x ∷ ys) now.1).coming at (subst (λ h. MayCome shape pace e (mid ++ x ∷ ys) y h) its now.0).asked

        row : (h : Happens n) (cancels : Bool) → y.happens ≡ h → list_any (λ (q : Row n). write_of line q && stored_by x.tick q.outcome) (row_with shape all h y.tick cancels) ≡ false
        row (Core (Write at to bytes given answer)) cancels its =
            let late : stored_by x.tick (outcome_of shape all at) ≡ false =
            stored-late (pre ++ y ∷ []) (mid ++ x ∷ ys) at x.tick over
            (last-later shape pace e mid (x ∷ ys) sized.read sized.iter now.1)
            (ap is_stored (coming at to bytes given answer its)) in
            or_from ((to == line) && stored_by x.tick (ended y.tick (outcome_of shape all at))) false (and_right (to == line) _ (stored-ended x.tick y.tick (outcome_of shape all at) ∙ late)) refl
        row (Core (Cut tearing)) true its = refl
        row _ _ its = refl

    -- a write before it is stored by its tick exactly where it is out of the queue
    out-here : (mid : List (TimedEvent n m)) (w : TimedEvent n m) (zs : List (TimedEvent n m)) (row at : ℕ) (bytes : List ℕ) (given : List Bool) (answer : WriteAnswer) → ys ≡ mid ++ w ∷ zs → w.happens ≡ Core (Write row at bytes given answer)
        → stored_by x.tick (outcome_of shape all row) ≡ out_in at (core ys) row
    out-here mid w zs row at bytes given answer split is =
        either (is_stored (outcome_of shape ys row)) (λ there. there-by there ∙ sym there ∙ known) (λ isnt. late isnt ∙ sym isnt ∙ known)
      where
        known : is_stored (outcome_of shape ys row) ≡ out_in at (core ys) row
        known =
            subst (λ (xs : List (TimedEvent n m)). is_stored (outcome_of shape xs row) ≡ out_in at (core xs) row) (sym split)
            (out-same shape pace e w zs row at bytes given answer is mid (subst (λ (xs : List (TimedEvent n m)). Lawful shape pace e xs) split here.1))

        there-by : is_stored (outcome_of shape ys row) ≡ true → stored_by x.tick (outcome_of shape all row) ≡ true
        there-by there =
            let over : (later ++ x ∷ []) ++ ys ≡ all = append_assoc later (x ∷ []) ys ∙ sym same in
            let kept : outcome_of shape all row ≡ outcome_of shape ys row =
            sym (ap (λ xs. outcome_of shape xs row) over)
            ∙ stays shape pace e (later ++ x ∷ []) ys row (subst (λ (xs : List (TimedEvent n m)). Lawful shape pace e xs) (sym over) l) (λ un. absurd (cc (sym (ap is_stored un) ∙ there))) in
            ap (stored_by x.tick) kept
            ∙ below-stored x.tick (outcome_of shape ys row)
            (λ u p s.
            let le : u ≤ last_tick ys = stored_up_to shape pace e ys row u p sized.read sized.iter here.1 s in
            let rises : last_tick ys ≤ x.tick = last_tick-rises shape pace e ys x sized.read sized.iter here in
            omega arith) there

        late : is_stored (outcome_of shape ys row) ≡ false → stored_by x.tick (outcome_of shape all row) ≡ false
        late isnt =
            above-unstored x.tick (outcome_of shape all row)
            (λ u p s.
            stored_above shape pace e later (x ∷ ys) row u p sized.read sized.iter whole (λ k. none u p (stored_by_event shape pace e ys x x.happens row u p k))
            (sym (ap (λ xs. outcome_of shape xs row) same) ∙ s))
          where
            none : (u p : ℕ) → ((ends_action x.happens ≡ true) × (u ≡ x.tick)) ⊎ (outcome_of shape ys row ≡ out.Stored u p) → ⊥
            none u p (inl k) = absurd (cc (sym k.0 ∙ arrives))
            none u p (inr s) = absurd (cc (sym (ap is_stored s) ∙ isnt))

    -- so the rows and the events agree on which bytes the line's writes give
    unstored-same : (mid zs : List (TimedEvent n m)) → ys ≡ mid ++ zs → unstored (stored_by x.tick) line (rows_from shape all zs) ≡ uncovered (out_in line (core ys)) line (core zs)
    unstored-same mid [] split = refl
    unstored-same mid (w ∷ zs) split =
        by w.happens w.cancels refl (may_at shape pace e all (later ++ x ∷ mid) w zs l within) (onwards_at shape pace e all (later ++ x ∷ mid) w zs l within)
        (unstored-same (mid ++ w ∷ []) zs (split ∙ sym (append_assoc mid (w ∷ []) zs)))
      where
        within : all ≡ (later ++ x ∷ mid) ++ w ∷ zs
        within = same ∙ ap (λ zs. later ++ x ∷ zs) split ∙ sym (append_assoc later (x ∷ mid) (w ∷ zs))

        outs : (row at : ℕ) (bytes : List ℕ) (given : List Bool) (answer : WriteAnswer) → w.happens ≡ Core (Write row at bytes given answer) → (at == line) ≡ true
            → stored_by x.tick (ended w.tick (outcome_of shape all row)) ≡ out_in line (core ys) row
        outs row at bytes given answer is own =
            stored-ended x.tick w.tick (outcome_of shape all row) ∙ out-here mid w zs row at bytes given answer split is ∙ ap (λ l. out_in l (core ys) row) (eqb-true at line own)

        by : (h : Happens n) (cancels : Bool) → w.happens ≡ h → MayCome shape pace e zs w h → Onwards shape all zs w.tick h
            → unstored (stored_by x.tick) line (rows_from shape all zs) ≡ uncovered (out_in line (core ys)) line (core zs)
            → unstored (stored_by x.tick) line (row_with shape all h w.tick cancels ++ rows_from shape all zs) ≡ uncovered (out_in line (core ys)) line (core_of h (core zs))
        by (Core (Write row at bytes given wrote.Full)) cancels is may on rest =
            let acc : accepts (ended w.tick (outcome_of shape all row)) ≡ false =
            outcome-accepts w.tick wrote.Full (ended w.tick (outcome_of shape all row)) (write_outcome shape pace e all zs w row at bytes given wrote.Full o may on) in
            refused_row n (at == line) _ _ given _ _ (refused-unstored x.tick (ended w.tick (outcome_of shape all row)) acc) acc rest
        by (Core (Write row at bytes given wrote.Exhausted)) cancels is may on rest =
            let acc : accepts (ended w.tick (outcome_of shape all row)) ≡ false =
            outcome-accepts w.tick wrote.Exhausted (ended w.tick (outcome_of shape all row)) (write_outcome shape pace e all zs w row at bytes given wrote.Exhausted o may on) in
            refused_row n (at == line) _ _ given _ _ (refused-unstored x.tick (ended w.tick (outcome_of shape all row)) acc) acc rest
        by (Core (Write row at bytes given answer)) cancels is may on rest =
            accepted_row n (at == line) _ _ _ given _ _ (outs row at bytes given answer is)
            (outcome-accepts w.tick answer (ended w.tick (outcome_of shape all row)) (write_outcome shape pace e all zs w row at bytes given answer o may on)) rest
        by (Core (Cut tearing)) true is may on rest = rest
        by _ _ is may on rest = rest

    -- where the queue doesn't give all bytes of a line, it gives those that the rows say
    pub cover-same : gives_all (given_of (queue shape (core ys)) line) ≡ false → cover x.tick line (rows_from shape all ys) (rows_after shape all later) ≡ given_of (queue shape (core ys)) line
    cover-same some =
        let b = above_all shape pace e ys here.1 in
        let k = fits-after shape (most_steps e) (core ys) b.0 (may_all shape pace e ys here.1) b.1 in
        ap (λ c. cond c (none_given n) (unstored (stored_by x.tick) line (rows_from shape all ys))) (behind [] later same)
        ∙ unstored-same [] ys refl
        ∙ sym (fits-given (λ out. uncovered out line (core ys)) (out_in line (core ys)) line (queue shape (core ys)) some (k.fits line))
