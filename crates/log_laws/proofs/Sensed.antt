-- Each row that was stored or read has its sense in the log.
use Rattle.std.proofs.Common.{◌≡◌, ℕ, ◌+◌, ◌==◌, ◌&&◌, ◌||◌, inl, Bool, true, false, List, [], ◌∷◌, ◌++◌, refl, sym, ap, ◌∙◌, subst, cond, length, append_assoc}
use Rattle.std.{specs.List.list_any, specs.Prelude.{filter, nat_le, nat_lt}, proofs.lemmas.Bool.or_left, proofs.lemmas.List.Folds.list_any-append}
use Rattle.bank_model.specs.{Adding.senses_of, Events.{Write, Read, Cut, newest}, History.{Awaited, awaited, queue, waits}, Lawful.{Lawful, MayCome}}
use Rattle.bank_model.{specs.Timing.{Happens, Core, TimedEvent, core, core_of}, proofs.Waits.waits-some}
use Rattle.cell_rows.specs.declared.array.Sense.{Sense}
use Rattle.ecp_line.specs.Reading.{decode}
use Rattle.result_rows.specs.declared.Outcome.{Outcome}
use Rattle.result_rows.specs.declared.Outcome.TheVariants as out
use Rattle.masked_bytes.specs.{Entries.layer_of, Masked.{laid, gives_all}}
use Rattle.row_rules.specs.{Queueing.cover, Serving.{may_have, same_bytes}, declared.Asks.TheVariants.{Reads, Writes}, declared.Row.Row}
use Rattle.row_rules.specs.Rows as rows
use Rattle.bank_shape.specs.{Shape.lines_in, declared.BankShape.BankShape, declared.answer.WriteAnswer.WriteAnswer, declared.pace.Pace.Pace}
use Rattle.bank_shape.specs.declared.answer.ReadAnswer.TheVariants as came
use Rattle.bank_laws.specs.{Laws.{IsSized, log_of}, Outcomes.{outcome_of, ended, row_with, rows_from}, Settling.AreOpen, Ticks.ends_action}
use Rattle.bank_laws.proofs.{Ending.{Onwards, own_answer, outcome-may, write_outcome}, Fates.{IsSettled, awaits-new}, Given.{given_of, given-layer}}
use Rattle.bank_laws.proofs.{Serves.{may_at, newest_same, onwards_at}, Settling.opens, Waiting.settled_all, Walking.{Passes, walk, rows_after}}
use Rattle.right_runs.specs.Logs.{is_sensed, outcome_sensed, has_sense}
use Rattle.log_laws.{specs.Laws.SensedLaw, proofs.Reading.read-sensed, proofs.Storing.stored-sensed, proofs.Uncovering.cover-same}

pub any-filter : {X : Type 0} (p keep : X → Bool) (xs : List X) → list_any p (filter keep xs) ≡ true → list_any p xs ≡ true
any-filter p keep [] h = h
any-filter p keep (x ∷ xs) h = by (keep x) (p x) (λ k. any-filter p keep xs k) refl h
  where
    by : (b c : Bool) → (list_any p (filter keep xs) ≡ true → list_any p xs ≡ true) → p x ≡ c → list_any p (cond b (x ∷ filter keep xs) (filter keep xs)) ≡ true → (c || list_any p xs) ≡ true
    by b true rest is h = refl
    by true false rest is h = rest (ap (λ c. c || list_any p (filter keep xs)) (sym is) ∙ h)
    by false false rest is h = rest h

module _ {n m : ℕ} (shape : BankShape) (pace : Pace) (e : ℕ) (all : List (TimedEvent n m)) (log extra : List (Sense n m)) (sized : IsSized shape pace) (l : Lawful shape pace e all) (o : AreOpen shape all) (shown : log_of shape log ≡ senses_of all ++ extra) where
  -- what the history sensed is in the log
  in-log : (place tick : ℕ) (gives : List ℕ → Bool) → is_sensed (decode e) (senses_of all) place tick gives ≡ true → is_sensed (decode e) log place tick gives ≡ true
  in-log place tick gives there =
      any-filter (λ (s : Sense n m). s.line == place && (s.tick == tick && gives (decode e s.cells))) (λ s. nat_le shape.base s.line && nat_lt s.line (shape.base + lines_in shape)) log
      (ap (λ ss. is_sensed (decode e) ss place tick gives) shown ∙ list_any-append _ (senses_of all) extra ∙ or_left (is_sensed (decode e) (senses_of all) place tick gives) _ there)

  module _ (later : List (TimedEvent n m)) (x : TimedEvent n m) (ys : List (TimedEvent n m)) (same : all ≡ later ++ x ∷ ys) where
    whole : Lawful shape pace e (later ++ x ∷ ys)
    whole = subst (λ (xs : List (TimedEvent n m)). Lawful shape pace e xs) same l

    written : (row line : ℕ) (bytes : List ℕ) (given : List Bool) (answer : WriteAnswer) (r : Row n) (after : List (Row n)) (k : Outcome n) → x.happens ≡ Core (Write row line bytes given answer)
        → rows.newest (r ∷ rows_from shape all ys) (rows.line_of r.asks) ≡ newest (Write row line bytes given answer ∷ core ys) line
        → may_have {n = n} x.tick (Writes line bytes given) [] (ended x.tick k) ≡ true → outcome_of shape all row ≡ k
        → outcome_sensed (decode e) log (rows_from shape all ys) r after (ended x.tick k) ≡ true
    written row line bytes given answer r after (out.Stored u p) is newest_is may of =
        in-log p u (same_bytes (rows.newest (r ∷ rows_from shape all ys) (rows.line_of r.asks)))
        (subst (λ (xs : List (TimedEvent n m)). is_sensed (decode e) (senses_of xs) p u (same_bytes (rows.newest (r ∷ rows_from shape all ys) (rows.line_of r.asks))) ≡ true) (sym same)
        (subst (λ b. is_sensed (decode e) (senses_of (later ++ x ∷ ys)) p u (same_bytes b) ≡ true) (sym newest_is)
        (stored-sensed shape pace e later x ys row line bytes given answer is whole u p (sym (ap (λ xs. outcome_of shape xs row) same) ∙ of))))
    written row line bytes given answer r after (out.Read at place some) is newest_is may of = absurd (cc)
    written row line bytes given answer r after _ is newest_is may of = refl

    waited : (row line : ℕ) (k : Outcome n) → x.happens ≡ Core (Read row line came.Waiting) → gives_all (layer_of (queue shape (core ys)) line).given ≡ false → rows.newest (rows_from shape all ys) line ≡ newest (core ys) line
        → IsSettled (newest (core ys) line) k → outcome_of shape all row ≡ k
        → outcome_sensed (decode e) log (rows_from shape all ys) (record { tick = x.tick; asks = Reads line; outcome = k }) (rows_after shape all later) k ≡ true
    waited row line (out.Read u p bytes) is some newest_is settled of =
        let mine : Awaited = awaited row line (newest (core ys) line) (layer_of (queue shape (core ys)) line) in
        let layer : (layer_of (queue shape (core ys)) line).given ≡ given_of (queue shape (core ys)) line = given-layer (queue shape (core ys)) line in
        let covered : cover x.tick line (rows_from shape all ys) (rows_after shape all later) ≡ (layer_of (queue shape (core ys)) line).given =
        cover-same shape pace e all sized l o later x ys same line (ap ends_action is) (sym (ap gives_all layer) ∙ some) ∙ sym layer in
        in-log p u (λ under. same_bytes bytes (laid (rows.newest (rows_from shape all ys) line) (cover x.tick line (rows_from shape all ys) (rows_after shape all later)) under))
        (subst (λ (xs : List (TimedEvent n m)). is_sensed (decode e) (senses_of xs) p u (λ under. same_bytes bytes (laid (rows.newest (rows_from shape all ys) line) (cover x.tick line (rows_from shape all ys) (rows_after shape all later)) under)) ≡ true) (sym same)
        (subst (λ c. is_sensed (decode e) (senses_of (later ++ x ∷ ys)) p u (λ under. same_bytes bytes (laid (rows.newest (rows_from shape all ys) line) c under)) ≡ true) (sym covered)
        (subst (λ b. is_sensed (decode e) (senses_of (later ++ x ∷ ys)) p u (λ under. same_bytes bytes (laid b (layer_of (queue shape (core ys)) line).given under)) ≡ true) (sym newest_is)
        (read-sensed shape pace e mine x ys line is (ap (λ h. waits shape (core_of h (core ys))) is) later whole u p bytes (sym (ap (λ xs. outcome_of shape xs row) same) ∙ of)))))
    waited row line (out.Lost at) is some newest_is settled of = refl
    waited row line _ is some newest_is settled of = absurd settled

    -- the row of each event has its sense
    sensed_at : waits shape (core all) ≡ [] → Passes (has_sense (decode e) log) (rows_from shape all ys) (row_with shape all x.happens x.tick x.cancels) (rows_after shape all later)
    sensed_at none =
        by x.happens x.cancels refl (may_at shape pace e all later x ys l same) (onwards_at shape pace e all later x ys l same)
        (λ line. newest_same shape pace e all (later ++ x ∷ []) ys line l o (same ∙ sym (append_assoc later (x ∷ []) ys)))
        (λ line. newest_same shape pace e all later (x ∷ ys) line l o same)
      where
        by : (h : Happens n) (cancels : Bool) → x.happens ≡ h → MayCome shape pace e ys x h → Onwards shape all ys x.tick h
            → ((line : ℕ) → rows.newest (rows_from shape all ys) line ≡ newest (core ys) line)
            → ((line : ℕ) → rows.newest (rows_from shape all (x ∷ ys)) line ≡ newest (core (x ∷ ys)) line)
            → Passes (has_sense (decode e) log) (rows_from shape all ys) (row_with shape all h x.tick cancels) (rows_after shape all later)
        by (Core (Write row line bytes given answer)) cancels is may on old new =
            written row line bytes given answer (record { tick = x.tick; asks = Writes line bytes given; outcome = ended x.tick (outcome_of shape all row) }) (rows_after shape all later) (outcome_of shape all row) is
            (sym (ap (λ h. rows.newest (row_with shape all h x.tick x.cancels ++ rows_from shape all ys) line) is) ∙ new line ∙ ap (λ h. newest (core_of h (core ys)) line) is)
            (outcome-may x.tick line bytes given answer (ended x.tick (outcome_of shape all row)) (write_outcome shape pace e all ys x row line bytes given answer o may on)) refl
        by (Core (Read row line (came.Forwarded bytes))) cancels is may on old new =
            ap (outcome_sensed (decode e) log (rows_from shape all ys) (record { tick = x.tick; asks = Reads line; outcome = outcome_of shape all row }) (rows_after shape all later))
            (own_answer shape pace e all ys x (Core (Read row line (came.Forwarded bytes))) row (out.Forwarded x.tick bytes) on refl (λ un. absurd (cc)))
        by (Core (Read row line came.Busy)) cancels is may on old new =
            ap (outcome_sensed (decode e) log (rows_from shape all ys) (record { tick = x.tick; asks = Reads line; outcome = outcome_of shape all row }) (rows_after shape all later))
            (own_answer shape pace e all ys x (Core (Read row line came.Busy)) row (out.Busy x.tick) on refl (λ un. absurd (cc)))
        by (Core (Read row line came.Waiting)) cancels is may on old new =
            waited row line (outcome_of shape all row) is
            (waits-some (gives_all (layer_of (queue shape (core ys)) line).given) (length (waits shape (core ys)) == shape.reads) (newest (core ys) line) may.may.1) (old line)
            (settled_all shape pace e all row (newest (core ys) line) none
            (on.reads row (newest (core ys) line) (inl (awaits-new (waits shape (core ys)) (awaited row line (newest (core ys) line) (layer_of (queue shape (core ys)) line)))))) refl
        by (Core (Cut tearing)) false is may on old new = refl
        by _ _ is may on old new = tt

pub sensed_law : SensedLaw
sensed_law n m e shape pace xs log extra sized l still shown =
    walk shape xs (has_sense (decode e) log) [] xs refl
    (λ later x ys same. sensed_at shape pace e xs log extra sized l (opens shape pace e xs l) shown later x ys same still.unawaited)
