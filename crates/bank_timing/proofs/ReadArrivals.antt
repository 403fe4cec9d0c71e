-- A read arrives: what becomes of the clock and of the results.
use Rattle.std.proofs.Common.{◌≡◌, ◌≢◌, ℕ, ◌+◌, ◌≤◌, ◌==◌, ◌||◌, Bool, true, false, List, [], ◌∷◌, ◌++◌, length, Option, Some, None, ◌⊎◌, inl, inr, refl, sym, ap, subst, ◌∙◌, eqb-true}
use Rattle.std.{specs.Prelude.{unwrap_or, IfSome, if◌then◌else◌}, proofs.lemmas.Bool.ne_eqb}
use Rattle.cell_rows.specs.Device.{ArrayState}
use Rattle.result_rows.specs.{Table.{HasRow, with_outcome}, declared.Outcome.Outcome}
use Rattle.result_rows.specs.declared.Outcome.TheVariants as out
use Rattle.masked_bytes.{specs.Entries.layer_of, proofs.Truth.or_false}
use Rattle.bank_shape.specs.{declared.BankShape.BankShape, declared.answer.ReadAnswer.ReadAnswer, declared.clock.Action.Action, declared.clock.Doing.Doing}
use Rattle.bank_shape.specs.{declared.clock.Doing.TheVariants.{Serving, Beginning, Iterating}, declared.pace.Pace.Pace, declared.waiting.Waiting.Waiting}
use Rattle.bank_shape.specs.declared.answer.ReadAnswer.TheVariants as came
use Rattle.reg_lines.specs.Regs.{RegsState}
use Rattle.bank_model.{specs.Events.{BankEvent, Read}, specs.History.{Awaited, waits}, specs.Lawful.Lawful, specs.Timing.{TimedEvent, Core, core}, proofs.Rising.RowsBelow-more}
use Rattle.bank_laws.specs.Outcomes.{outcome_by}
use Rattle.bank_invariant.specs.{Holds.Holds, Serving.{kept_with, read_from, waits_too}, State.BankState}
use Rattle.bank_core.specs.Steps.{after_read as bank_after_read}
use Rattle.clock_laws.specs.{Arriving.{arrival, cancels_for, action_after_read, after_read, KeepsWork}, Fitting.{Fits, IsFit}, Leads.Leads}
use Rattle.clock_laws.{specs.Standing.{has_waiting, AreApart, is_arrival_of}, specs.State.ClockState, proofs.Arriving.read_law, proofs.Extending.arrival_added_law}
use Rattle.clock_laws.proofs.{Fitting.fit_read_law, Others.{apart_law, other_rows_law}}
use Rattle.bank_timing.{specs.Clock.IsClock, specs.Extending.{Extends, Arrives, AreOpen, IsOpen, StandOpen, LeavesOthersThan, outcome_in}, proofs.Rows.{rows-set, in-set}}
use Rattle.bank_timing.proofs.Standing.{stay-unset}

-- the results after a read was answered
abbrev pub read_recorded : {n : ℕ} → ReadAnswer n → ℕ → ℕ → List (Outcome n) → List (Outcome n)
read_recorded (came.Forwarded bytes) tick row results = with_outcome results row (out.Forwarded tick bytes)
read_recorded came.Waiting tick row results = results
read_recorded came.Busy tick row results = with_outcome results row (out.Busy tick)

pub no-other : (arrives row : ℕ) → row ≢ arrives → ((arrives == row) || false) ≡ false
no-other arrives row other = ap (λ b. b || false) (ne_eqb arrives row (λ same. other (sym same)))

-- where the one before isn't the row, it is one behind
skip-or : {A : Type 0} (b after before : Bool) → (b || after) ≡ true → (b || before) ≡ false → (after ≡ true → before ≡ false → A) → A
skip-or true after before h k next = absurd (cc)
skip-or false after before h k next = next h k

module _ {n : ℕ} (w : Waiting n) (row : ℕ) where
  last-pushed : (ws : List (Waiting n)) → has_waiting (ws ++ w ∷ []) row ≡ true → has_waiting ws row ≡ false → row ≡ w.row
  last-pushed [] there is = sym (eqb-true w.row row (sym (or_false (w.row == row)) ∙ there))
  last-pushed (v ∷ vs) there is = skip-or (v.row == row) (has_waiting (vs ++ w ∷ []) row) (has_waiting vs row) there is (last-pushed vs)

  has-pushed : (ws : List (Waiting n)) → has_waiting (ws ++ w ∷ []) row ≡ true → (b : Bool) → has_waiting ws row ≡ b → (has_waiting ws row ≡ true) ⊎ (row ≡ w.row)
  has-pushed ws there true is = inl is
  has-pushed ws there false is = inr (last-pushed ws there is)

-- a bank with the same queue, line write and waiting reads has what an action needs
pub fit-same : {n m e : ℕ} (old : BankState n m e) (regs : RegsState n m e) (bound : ℕ) (action : Option Action) → IsFit old regs action
    → IsFit (record { kept = old.kept; running = old.running; waiting = old.waiting; lost = old.lost; rows_below = bound }) regs action
fit-same old regs bound None fit = tt
fit-same old regs bound (Some action) fit = by action.doing fit
  where
    by : (d : Doing) → Fits old regs d → Fits (record { kept = old.kept; running = old.running; waiting = old.waiting; lost = old.lost; rows_below = bound }) regs d
    by Serving own = own
    by Beginning own = own
    by Iterating own = own

module _ {n m e : ℕ} where
  -- an arrival leaves each other row
  pub arrival-others : (arrives : ℕ) (event : BankEvent n) (clock new : ClockState n m e) (array : ArrayState n m) (results recorded : List (Outcome n))
      → ((row : ℕ) → row ≢ arrives → (is_arrival_of (Core event) row || false) ≡ false)
      → (xs : List (TimedEvent n m)) → Leads xs clock array → Extends xs (arrival clock.tick event ∷ []) clock new array array results recorded
      → LeavesOthersThan arrives clock.bank results recorded
  arrival-others arrives event clock new array results recorded quiet xs leads extends row there other unqueued unawaited =
      let lawful : Lawful clock.bank.kept.shape clock.pace e (arrival clock.tick event ∷ xs) =
      subst (λ (shape : BankShape). Lawful shape clock.pace e (arrival clock.tick event ∷ xs)) extends.shape
      (subst (λ (pace : Pace). Lawful new.bank.kept.shape pace e (arrival clock.tick event ∷ xs)) extends.pace extends.leads.lawful) in
      extends.outcomes row there
      ∙ other_rows_law n m e row (arrival clock.tick event ∷ []) xs clock array (outcome_in results) leads lawful unqueued unawaited (quiet row other)

-- a bank takes a read, with an answer: what is true of its clock and of the results before, and what the bank promises
pub record TakesRead {n m e : ℕ} (row line : ℕ) (clock : ClockState n m e) (results : List (Outcome n)) (answer : ReadAnswer n) (bank : BankState n m e) : Type 0 where
  pub quiet : cancels_for clock line ≡ false
  pub led : (xs : List (TimedEvent n m)) × (array : ArrayState n m) × Leads xs clock array
  pub rises : clock.bank.rows_below ≤ row
  pub unset : AreOpen clock.bank results
  pub fresh : IsOpen results row
  pub answered : read_from clock.bank line ≡ answer
  pub left : bank ≡ bank_after_read clock.bank row line answer
  pub holds : (h : List (BankEvent n)) (array : ArrayState n m) → Holds h clock.bank array → Holds (Read row line answer ∷ h) bank array

module _ {n : ℕ} where
  -- each row still has its place in the results
  read-rows : (row tick : ℕ) (results : List (Outcome n)) (answer : ReadAnswer n) → length (read_recorded answer tick row results) ≡ length results
  read-rows row tick results (came.Forwarded bytes) = rows-set results row (out.Forwarded tick bytes)
  read-rows row tick results came.Waiting = refl
  read-rows row tick results came.Busy = rows-set results row (out.Busy tick)

  -- each row has the outcome that the read makes of it, or else the one that it had
  read-outcomes : (row line tick : ℕ) (results : List (Outcome n)) → IsOpen results row → (answer : ReadAnswer n) (ws : List Awaited) (at : ℕ) → HasRow results at
      → outcome_in (read_recorded answer tick row results) at ≡ unwrap_or (outcome_by ws (Read row line answer) tick at) (outcome_in results at)
  read-outcomes row line tick results fresh (came.Forwarded bytes) ws at there = in-set results row (out.Forwarded tick bytes) at fresh.exists there
  read-outcomes row line tick results fresh came.Waiting ws at there = refl
  read-outcomes row line tick results fresh came.Busy ws at there = in-set results row (out.Busy tick) at fresh.exists there

-- the rows that stand in a bank where a read begins to wait have no outcome
pub waits-unset : {n m e : ℕ} (bank : BankState n m e) (row line : ℕ) (results : List (Outcome n)) → AreOpen bank results → IsOpen results row → AreOpen (waits_too bank row line) results
waits-unset bank row line results unset fresh = record {
  queued = unset.queued;
  waiting = λ at there.
      elim (has-pushed (kept_with row line (layer_of bank.kept.entries line)) at bank.waiting there (has_waiting bank.waiting at) refl) [
        | inl old ↦ unset.waiting at old
        | inr own ↦ subst (λ (at : ℕ). IsOpen results at) (sym own) fresh
      ];
}

-- a bank that answered a read has the work that it had
pub read-keeps : {n m e : ℕ} (bank : BankState n m e) (row line : ℕ) (answer : ReadAnswer n) → KeepsWork bank (bank_after_read bank row line answer)
read-keeps bank row line (came.Forwarded bytes) = record { shape = refl; items = λ item. refl; running = refl; lost = refl }
read-keeps bank row line came.Waiting = record { shape = refl; items = λ item. refl; running = refl; lost = refl }
read-keeps bank row line came.Busy = record { shape = refl; items = λ item. refl; running = refl; lost = refl }

module _ {n m e row line : ℕ} {clock : ClockState n m e} {results : List (Outcome n)} {answer : ReadAnswer n} {bank : BankState n m e} (r : TakesRead row line clock results answer bank) where
  -- each history that led to the clock goes on with the arrival of the read
  read-extends : (xs : List (TimedEvent n m)) (array : ArrayState n m) → Leads xs clock array
      → Extends xs (arrival clock.tick (Read row line (read_from clock.bank line)) ∷ []) clock (after_read clock bank line answer) array array results (read_recorded answer clock.tick row results)
  read-extends xs array leads =
      subst (λ (a : ReadAnswer n). Extends xs (arrival clock.tick (Read row line a) ∷ []) clock (after_read clock bank line answer) array array results (read_recorded answer clock.tick row results)) (sym r.answered)
      (record {
        leads = read_law n m e row line answer xs clock bank array leads r.quiet (sym r.answered) (RowsBelow-more (core xs) clock.bank.rows_below row r.rises leads.holds.rows) keeps (r.holds (core xs) array leads.holds);
        shape = keeps.shape;
        pace = refl;
        adds = arrival_added_law n m clock.tick clock.bank.kept.shape (Read row line answer) array;
        rows = read-rows row clock.tick results answer;
        outcomes = λ at there. read-outcomes row line clock.tick results r.fresh answer (waits clock.bank.kept.shape (core xs)) at there;
      })
    where
      keeps : KeepsWork clock.bank bank
      keeps = subst (λ (b : BankState n m e). KeepsWork clock.bank b) (sym r.left) (read-keeps clock.bank row line answer)

  -- the rows that stand in the bank then have no outcome
  read-unset : AreOpen bank (read_recorded answer clock.tick row results)
  read-unset = subst (λ (b : BankState n m e). AreOpen b (read_recorded answer clock.tick row results)) (sym r.left) (by answer)
    where
      apart : AreApart clock.bank.kept.entries clock.bank.waiting clock.bank.rows_below
      apart = apart_law n m e r.led.0 clock r.led.1 r.led.2

      stay : (o : Outcome n) → StandOpen clock.bank.kept.entries clock.bank.waiting (with_outcome results row o)
      stay o = stay-unset clock.bank.kept.entries clock.bank.waiting results row o r.fresh.exists (apart.queued_below row r.rises) (apart.waiting_below row r.rises) r.unset

      by : (answer : ReadAnswer n) → AreOpen (bank_after_read clock.bank row line answer) (read_recorded answer clock.tick row results)
      by (came.Forwarded bytes) = stay (out.Forwarded clock.tick bytes)
      by came.Busy = stay (out.Busy clock.tick)
      by came.Waiting = waits-unset clock.bank row line results r.unset r.fresh

  -- the bank and the action that runs then are still those that the clock may have
  pub read-clock : {pace : Pace} {capacity : ℕ} → IsClock clock.bank clock.regs pace clock.tick clock.action capacity → IsClock bank clock.regs pace clock.tick (action_after_read clock.bank.kept clock.regs.change line answer clock.action) capacity
  read-clock {pace} {capacity} inv = subst (λ (b : BankState n m e). IsClock b clock.regs pace clock.tick (action_after_read clock.bank.kept clock.regs.change line answer clock.action) capacity) (sym r.left) (by answer)
    where
      begun-still : (b : Bool) → IfSome clock.action (λ a. a.first ≤ clock.tick) → IfSome (if b then None else clock.action) (λ a. a.first ≤ clock.tick)
      begun-still true own = tt
      begun-still false own = own

      by : (answer : ReadAnswer n) → IsClock (bank_after_read clock.bank row line answer) clock.regs pace clock.tick (action_after_read clock.bank.kept clock.regs.change line answer clock.action) capacity
      by (came.Forwarded bytes) = record { layout = inv.layout; paced = inv.paced; room = inv.room; begun = inv.begun; fit = fit-same clock.bank clock.regs (row + 1) clock.action inv.fit; idle = inv.idle }
      by came.Waiting = record {
        layout = inv.layout;
        paced = inv.paced;
        room = inv.room;
        begun = begun-still _ inv.begun;
        fit = fit_read_law n m e row line clock.action clock.bank clock.regs inv.fit;
        idle = inv.idle;
      }
      by came.Busy = record { layout = inv.layout; paced = inv.paced; room = inv.room; begun = inv.begun; fit = fit-same clock.bank clock.regs (row + 1) clock.action inv.fit; idle = inv.idle }

  -- each other row that neither stood in the queue nor waited keeps its outcome
  read-others : LeavesOthersThan row clock.bank results (read_recorded answer clock.tick row results)
  read-others =
      arrival-others row (Read row line (read_from clock.bank line)) clock (after_read clock bank line answer) r.led.1 results (read_recorded answer clock.tick row results)
      (λ at other. no-other row at other) r.led.0 r.led.2 (read-extends r.led.0 r.led.1 r.led.2)

  -- the bound below which rows came is just above this row
  read-bound : bank.rows_below ≡ row + 1
  read-bound = ap (λ (b : BankState n m e). b.rows_below) r.left ∙ by answer
    where
      by : (answer : ReadAnswer n) → (bank_after_read clock.bank row line answer).rows_below ≡ row + 1
      by (came.Forwarded bytes) = refl
      by came.Waiting = refl
      by came.Busy = refl

  -- all that the read promises
  pub read-arrives : (array : ArrayState n m)
      → Arrives row (Read row line (read_from clock.bank line)) (λ xs. []) clock (after_read clock bank line answer) array array results (read_recorded answer clock.tick row results)
  read-arrives array = record {
    now = refl;
    drained = refl;
    rows = read-bound;
    extends = λ xs leads. read-extends xs array leads;
    unset = read-unset;
    others = read-others;
  }
