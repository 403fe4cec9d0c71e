-- The stores on one array line by the rows are those by the events.
use Rattle.std.proofs.Common.{◌≡◌, ℕ, ◌+◌, ◌==◌, ◌&&◌, Bool, true, false, List, [], ◌∷◌, Some, None, refl, sym, ap, ◌∙◌, subst, arith, cond, eqb, eqb-true}
use Rattle.std.specs.Prelude.{unwrap_or}
use Rattle.result_rows.specs.declared.Outcome.{Outcome}
use Rattle.result_rows.specs.declared.Outcome.TheVariants as out
use Rattle.row_rules.specs.Rows.{asks_write, asks_write_of}
use Rattle.bank_shape.specs.{declared.BankShape.BankShape, declared.answer.Step.Step, declared.pace.Pace.Pace}
use Rattle.bank_shape.specs.declared.answer.WriteAnswer.TheVariants as wrote
use Rattle.bank_shape.specs.declared.answer.ReadAnswer.TheVariants as came
use Rattle.bank_shape.specs.declared.answer.Step.TheVariants as did
use Rattle.bank_model.specs.{Events.{BankEvent, Write, Read, Serve, Begin, Iterate, Cut, line_of_row}, History.{queue, waits}, Lawful.{Lawful, MayCome}, Sensing.most_steps}
use Rattle.bank_model.specs.{Timing.{Happens, Core, Regs, TimedEvent, core, core_of}, Works.tally}
use Rattle.bank_laws.specs.{Outcomes.{on_row, outcome_with, outcome_of, ended, table_of}, Settling.AreOpen, Standing.has_wait}
use Rattle.bank_laws.proofs.{Answering.{merged-there, served-first, first-there}, Asked.{queue-wrote, wrote-line}, Ending.own_row, Lines.stands-row, Settling.{opens, above_all}}
use Rattle.bank_laws.proofs.Waiting.{may_all}
use Rattle.place_laws.proofs.{Counts.{writes_with, writes-same, writes-more}, Storing.none_first, Tables.rows-counted, Working.{IsStoreOf, done-store}}
use Rattle.masked_bytes.proofs.Counting.{one_if}
use Rattle.right_runs.specs.LineWrites.{is_stored_on, stores_at}
use Rattle.lifetime_laws.specs.Spread.{stores_on}

-- a store's answer for such a line with this place
abbrev pub is_done_on : {n : ℕ} → (ℕ → Bool) → ℕ → List (BankEvent n) → Step → Bool
is_done_on keep at h (did.Stored row place) = keep (line_of_row row h) && place == at
is_done_on keep at h _ = false

abbrev pub stored_tally : {n : ℕ} → (ℕ → Bool) → ℕ → List (BankEvent n) → ℕ
stored_tally keep at h = tally (is_done_on keep at) (λ h. false) h

abbrev pub any : ℕ → Bool
any line = true

and-true : (b : Bool) → one_if (b && true) ≡ one_if b
and-true b = grind arith

and-none : (b : Bool) → one_if (b && false) ≡ 0
and-none b = grind arith

module _ {n : ℕ} (on : ℕ) where
  other_kept : (at row : ℕ) (t : Outcome n) (f : ℕ → Outcome n) → is_stored_on on t ≡ false → f at ≡ out.Unset → is_stored_on on (unwrap_or (on_row at row t) (f row)) ≡ is_stored_on on (f row)
  other_kept at row t f isnt unset = by (eqb at row) refl
    where
      by : (b : Bool) → eqb at row ≡ b → is_stored_on on (unwrap_or (cond b (Some t) None) (f row)) ≡ is_stored_on on (f row)
      by true is = isnt ∙ sym (ap (is_stored_on on) (subst (λ r. f r ≡ out.Unset) (eqb-true at row is) unset))
      by false is = refl

  lost_kept : (b : Bool) (tick : ℕ) (o : Outcome n) → (b ≡ true → o ≡ out.Unset) → is_stored_on on (unwrap_or (cond b (Some (out.Lost tick)) None) o) ≡ is_stored_on on o
  lost_kept true tick o unset = sym (ap (is_stored_on on) (unset refl))
  lost_kept false tick o unset = refl

  ended-on : (tick : ℕ) (o : Outcome n) → is_stored_on on (ended tick o) ≡ is_stored_on on o
  ended-on tick o = grind arith

module _ {n m : ℕ} (shape : BankShape) (pace : Pace) (e : ℕ) (keep : ℕ → Bool) (on : ℕ) where
  abbrev landed : List (TimedEvent n m) → ℕ
  landed zs = writes_with keep (λ row. is_stored_on on (outcome_of shape zs row)) (core zs)

  -- one more store
  store-landed : (zs : List (TimedEvent n m)) (tick row place : ℕ) → Lawful shape pace e zs → IsStoreOf shape (core zs) row place
      → landed zs ≡ stored_tally keep on (core zs)
      → writes_with keep (λ r. is_stored_on on (unwrap_or (on_row row r (out.Stored tick place)) (outcome_of shape zs r))) (core zs) ≡ one_if (keep (line_of_row row (core zs)) && place == on) + stored_tally keep on (core zs)
  store-landed zs tick row place l store ih = by (place == on) refl
    where
      unset : outcome_of shape zs row ≡ out.Unset
      unset = (opens shape pace e zs l).queued row (stands-row (queue shape (core zs)) row store.line store.stands)

      by : (b : Bool) → (place == on) ≡ b
          → writes_with keep (λ r. is_stored_on on (unwrap_or (on_row row r (out.Stored tick place)) (outcome_of shape zs r))) (core zs) ≡ one_if (keep (line_of_row row (core zs)) && b) + stored_tally keep on (core zs)
      by true is =
          let b = above_all shape pace e zs l in
          let w = queue-wrote shape (most_steps e) (core zs) b.0 row store.line (may_all shape pace e zs l) b.1 store.stands in
          let more : writes_with keep (λ r. is_stored_on on (unwrap_or (on_row row r (out.Stored tick place)) (outcome_of shape zs r))) (core zs) ≡ landed zs + one_if (keep store.line) =
          writes-more keep (λ r. is_stored_on on (outcome_of shape zs r)) (λ r. is_stored_on on (unwrap_or (on_row row r (out.Stored tick place)) (outcome_of shape zs r))) (core zs) b.0 row store.line b.1 w
          (ap (is_stored_on on) unset)
          (ap (is_stored_on on) (own_row row (out.Stored tick place) (outcome_of shape zs row)) ∙ is)
          (λ r other. ap (λ b. is_stored_on on (unwrap_or (cond b (Some (out.Stored tick place)) None) (outcome_of shape zs r))) other) in
          let its : one_if (keep (line_of_row row (core zs)) && true) ≡ one_if (keep store.line) = and-true (keep (line_of_row row (core zs))) ∙ ap (λ k. one_if (keep k)) (wrote-line (core zs) b.0 row store.line b.1 w) in
          omega (arith, more, its, ih)
      by false is =
          let same : writes_with keep (λ r. is_stored_on on (unwrap_or (on_row row r (out.Stored tick place)) (outcome_of shape zs r))) (core zs) ≡ landed zs =
          writes-same keep (λ r. is_stored_on on (unwrap_or (on_row row r (out.Stored tick place)) (outcome_of shape zs r))) (λ r. is_stored_on on (outcome_of shape zs r)) (core zs)
          (λ r. other_kept on row r (out.Stored tick place) (outcome_of shape zs) is unset) in
          let none : one_if (keep (line_of_row row (core zs)) && false) ≡ 0 = and-none (keep (line_of_row row (core zs))) in
          omega (arith, same, none, ih)

  -- as many writes are stored on the array line by their outcomes as by the events
  pub stored-landed : (zs : List (TimedEvent n m)) → Lawful shape pace e zs → landed zs ≡ stored_tally keep on (core zs)
  stored-landed [] l = refl
  stored-landed (x ∷ zs) l = by x.happens l.0 (opens shape pace e zs l.1) (stored-landed zs l.1)
    where
      same : (h : Happens n) → ((row : ℕ) → is_stored_on on (unwrap_or (outcome_with shape zs h x.tick row) (outcome_of shape zs row)) ≡ is_stored_on on (outcome_of shape zs row))
          → landed zs ≡ stored_tally keep on (core zs)
          → writes_with keep (λ row. is_stored_on on (unwrap_or (outcome_with shape zs h x.tick row) (outcome_of shape zs row))) (core zs) ≡ stored_tally keep on (core zs)
      same h each ih =
          writes-same keep (λ row. is_stored_on on (unwrap_or (outcome_with shape zs h x.tick row) (outcome_of shape zs row))) (λ row. is_stored_on on (outcome_of shape zs row)) (core zs) each ∙ ih

      none_more : (k all : ℕ) → k ≡ all → k ≡ 0 + all
      none_more k all is = omega (arith, is)

      by : (h : Happens n) → MayCome shape pace e zs x h → AreOpen shape zs → landed zs ≡ stored_tally keep on (core zs)
          → writes_with keep (λ row. is_stored_on on (unwrap_or (outcome_with shape zs h x.tick row) (outcome_of shape zs row))) (core_of h (core zs)) ≡ stored_tally keep on (core_of h (core zs))
      by (Core (Write at line bytes given wrote.Accepted)) may o ih =
          none_first (keep line) _ _ _ (ap (is_stored_on on) (o.coming at may.asked)) ih
      by (Core (Write at line bytes given (wrote.Merged old))) may o ih =
          let each : (row : ℕ) → is_stored_on on (unwrap_or (on_row old row (out.Merged x.tick)) (outcome_of shape zs row)) ≡ is_stored_on on (outcome_of shape zs row) =
          λ row. other_kept on old row (out.Merged x.tick) (outcome_of shape zs) refl (o.queued old (merged-there shape (core zs) line old may.may.2)) in
          none_first (keep line) _ _ _ (each at ∙ ap (is_stored_on on) (o.coming at may.asked)) (same (Core (Write at line bytes given (wrote.Merged old))) each ih)
      by (Core (Write at line bytes given wrote.Full)) may o ih =
          let each : (row : ℕ) → is_stored_on on (unwrap_or (on_row at row (out.Full x.tick)) (outcome_of shape zs row)) ≡ is_stored_on on (outcome_of shape zs row) =
          λ row. other_kept on at row (out.Full x.tick) (outcome_of shape zs) refl (o.coming at may.asked) in
          none_first (keep line) _ _ _ (each at ∙ ap (is_stored_on on) (o.coming at may.asked)) (same (Core (Write at line bytes given wrote.Full)) each ih)
      by (Core (Write at line bytes given wrote.Exhausted)) may o ih =
          let each : (row : ℕ) → is_stored_on on (unwrap_or (on_row at row (out.Worn x.tick)) (outcome_of shape zs row)) ≡ is_stored_on on (outcome_of shape zs row) =
          λ row. other_kept on at row (out.Worn x.tick) (outcome_of shape zs) refl (o.coming at may.asked) in
          none_first (keep line) _ _ _ (each at ∙ ap (is_stored_on on) (o.coming at may.asked)) (same (Core (Write at line bytes given wrote.Exhausted)) each ih)
      by (Core (Read at line came.Waiting)) may o ih = ih
      by (Core (Read at line came.Busy)) may o ih =
          same (Core (Read at line came.Busy)) (λ row. other_kept on at row (out.Busy x.tick) (outcome_of shape zs) refl (o.coming at may.asked)) ih
      by (Core (Read at line (came.Forwarded bytes))) may o ih =
          same (Core (Read at line (came.Forwarded bytes))) (λ row. other_kept on at row (out.Forwarded x.tick bytes) (outcome_of shape zs) refl (o.coming at may.asked)) ih
      by (Core (Serve answer)) may o ih =
          same (Core (Serve answer)) (λ row. other_kept on answer.row row (out.Read x.tick answer.place answer.bytes) (outcome_of shape zs) refl
          (o.waiting answer.row (first-there (waits shape (core zs)) answer.row (served-first shape (core zs) (waits shape (core zs)) answer may.may)))) ih
      by (Core (Begin (did.Stored at place))) may o ih = store-landed zs x.tick at place l.1 (done-store shape (core zs) at place may.may.1) ih
      by (Core (Iterate (did.Stored at place))) may o ih = store-landed zs x.tick at place l.1 (done-store shape (core zs) at place may.may.1) ih
      by (Core (Cut tearing)) may o ih =
          none_more _ _ (same (Core (Cut tearing)) (λ row. lost_kept on (has_wait (waits shape (core zs)) row) x.tick (outcome_of shape zs row) (o.waiting row)) ih)
      by (Core _) may o ih = none_more _ _ ih
      by (Regs event) may o ih = ih

pub stores-landed : {n m : ℕ} (shape : BankShape) (pace : Pace) (e on : ℕ) (xs : List (TimedEvent n m)) → Lawful shape pace e xs → stores_at on (table_of shape xs) ≡ stored_tally any on (core xs)
stores-landed shape pace e on xs l =
    rows-counted shape xs (λ q. asks_write q.asks && is_stored_on on q.outcome) any (is_stored_on on) (record {
      writes = λ tick line bytes given o. ended-on on tick o;
      reads = λ tick line o. refl;
      cuts = λ tick o. refl;
    }) xs
    ∙ stored-landed shape pace e any on xs l

pub stores-of-landed : {n m : ℕ} (shape : BankShape) (pace : Pace) (e line on : ℕ) (xs : List (TimedEvent n m)) → Lawful shape pace e xs → stores_on line on (table_of shape xs) ≡ stored_tally (λ at. at == line) on (core xs)
stores-of-landed shape pace e line on xs l =
    rows-counted shape xs (λ q. asks_write_of line q.asks && is_stored_on on q.outcome) (λ at. at == line) (is_stored_on on) (record {
      writes = λ tick at bytes given o. ap (λ b. at == line && b) (ended-on on tick o);
      reads = λ tick at o. refl;
      cuts = λ tick o. refl;
    }) xs
    ∙ stored-landed shape pace e (λ at. at == line) on xs l
