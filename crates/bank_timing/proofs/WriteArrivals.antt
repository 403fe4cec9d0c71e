-- A write arrives: what becomes of the clock and of the results.
use Rattle.std.proofs.Common.{◌≡◌, ◌≢◌, ℕ, zero, suc, slice_get, ◌+◌, ◌<◌, ◌≤◌, ◌==◌, Bool, true, false, List, [], ◌∷◌, ◌++◌, length, ◌⊎◌, inl, inr, refl, sym, ap, subst, ◌∙◌, arith, eqb-true, length-append}
use Rattle.std.{specs.Prelude.{unwrap_or, IsSomeAnd}, proofs.lemmas.Bool.ne_eqb, proofs.lemmas.List.length-map}
use Rattle.cell_rows.specs.Device.{ArrayState}
use Rattle.result_rows.specs.{Table.{HasRow, with_outcome}, declared.Outcome.Outcome}
use Rattle.result_rows.specs.declared.Outcome.TheVariants as out
use Rattle.masked_bytes.{specs.Entries.{has_row, merged, candidate}, specs.declared.entry.Entry.Entry, proofs.Rows.{lacks-push, lacks-merged, lacks-old}}
use Rattle.bank_shape.specs.{declared.BankShape.BankShape, declared.answer.WriteAnswer.WriteAnswer, declared.pace.Pace.Pace, declared.waiting.Waiting.Waiting}
use Rattle.bank_shape.specs.declared.answer.WriteAnswer.TheVariants as wrote
use Rattle.line_writer.specs.Writing.{most_steps}
use Rattle.bank_model.specs.{Answers.{MayAll, head_busy_after}, Events.{BankEvent, Write}, History.{Awaited, queue, waits, has_exhausted}, Timing.{TimedEvent, core}}
use Rattle.bank_model.proofs.Rising.{RowsBelow-more}
use Rattle.bank_laws.{specs.Outcomes.outcome_by, proofs.Answering.candidate-there, proofs.Holding.length-merged}
use Rattle.bank_invariant.{specs.Holds.Holds, specs.State.BankState, proofs.Taking.answer_merged}
use Rattle.bank_core.specs.Steps.{write_from, after_write as bank_after_write}
use Rattle.clock_laws.specs.{Arriving.{arrival, after_write, KeepsWork, IsIndexOf}, Fitting.IsFit, Leads.Leads, Standing.{has_waiting, AreApart}, State.ClockState}
use Rattle.clock_laws.proofs.{Arriving.write_law, Extending.arrival_added_law, Fitting.fit_write_law, Others.apart_law}
use Rattle.bank_timing.specs.{Clock.IsClock, Extending.{Extends, Arrives, AreOpen, IsOpen, StandOpen, LeavesOthersThan, outcome_in}}
use Rattle.bank_timing.proofs.{ReadArrivals.{no-other, fit-same, arrival-others}, Rows.{rows-set, in-set, open-set}, Standing.{clash, apart-by, stay-unset}}

-- the results after a write was answered
abbrev pub write_recorded : {n : ℕ} → WriteAnswer → ℕ → ℕ → List (Outcome n) → List (Outcome n)
write_recorded wrote.Accepted tick row results = results
write_recorded (wrote.Merged old) tick row results = with_outcome results old (out.Merged tick)
write_recorded wrote.Full tick row results = with_outcome results row (out.Full tick)
write_recorded wrote.Exhausted tick row results = with_outcome results row (out.Worn tick)

module _ {n : ℕ} where
  -- an entry that is there is within
  some-within : (row : ℕ) (es : List (Entry n)) (index : ℕ) → IsSomeAnd (slice_get es index) (λ entry. entry.row ≡ row) → index < length es
  some-within row [] index some = absurd some
  some-within row (e ∷ es) zero some = omega arith
  some-within row (e ∷ es) (suc index) some = let below = some-within row es index some in omega (arith, below)

  -- a row of the queue that took a write is one of before, or the new one
  old-or-new : (before after : List (Entry n)) (row r : ℕ) → (has_row before r ≡ false → (row == r) ≡ false → has_row after r ≡ false) → has_row after r ≡ true
      → (has_row before r ≡ true) ⊎ (r ≡ row)
  old-or-new before after row r lacks there = by (has_row before r) (row == r) refl refl
    where
      by : (b d : Bool) → has_row before r ≡ b → (row == r) ≡ d → (has_row before r ≡ true) ⊎ (r ≡ row)
      by true d is same = inl is
      by false true is same = inr (sym (eqb-true row r same))
      by false false is same = absurd (clash (has_row after r) there (lacks is same))

module _ {n : ℕ} (es : List (Entry n)) (ws : List (Waiting n)) (next row : ℕ) (bytes : List ℕ) (given : List Bool) (results : List (Outcome n))
    (apart : AreApart es ws next) (rises : next ≤ row) (unset : StandOpen es ws results) (fresh : IsOpen results row) where
  here-or-new : (r : ℕ) → (has_row es r ≡ true) ⊎ (r ≡ row) → IsOpen results r
  here-or-new r (inl there) = unset.queued r there
  here-or-new r (inr same) = subst (λ (r : ℕ). IsOpen results r) (sym same) fresh

  pushed-unset : (x : Entry n) → x.row ≡ row → StandOpen (es ++ x ∷ []) ws results
  pushed-unset x own = record {
    queued = λ r there. here-or-new r (old-or-new es (es ++ x ∷ []) row r (λ h k. lacks-push es x r h (subst (λ (at : ℕ). (at == r) ≡ false) (sym own) k)) there);
    waiting = unset.waiting;
  }

  merged-unset : (old : ℕ) (o : Outcome n) → has_row es old ≡ true → StandOpen (merged old row bytes given es) ws (with_outcome results old o)
  merged-unset old o stands =
      let has = (unset.queued old stands).exists in
      let other : row ≢ old = λ same. clash (has_row es old) stands (subst (λ (r : ℕ). has_row es r ≡ false) same (apart.queued_below row rises)) in
      record {
        queued = λ r there.
            open-set results old o r has (apart-by (has_row (merged old row bytes given es)) r old there (lacks-old old row bytes given es apart.queued_apart (ne_eqb row old other)))
            (here-or-new r (old-or-new es (merged old row bytes given es) row r (lacks-merged old row bytes given es r) there));
        waiting = λ r there. open-set results old o r has (apart-by (has_waiting ws) r old there (apart.one_place old stands)) (unset.waiting r there);
      }

-- a bank takes a write, with an answer: what is true of its clock and of the results before, and what the bank promises
pub record TakesWrite {n m e : ℕ} (row line : ℕ) (bytes : List ℕ) (given : List Bool) (clock : ClockState n m e) (results : List (Outcome n)) (answer : WriteAnswer) (bank : BankState n m e) : Type 0 where
  pub led : (xs : List (TimedEvent n m)) × (array : ArrayState n m) × Leads xs clock array
  pub rises : clock.bank.rows_below ≤ row
  pub unset : AreOpen clock.bank results
  pub fresh : IsOpen results row
  pub answered : write_from clock.bank line ≡ answer
  pub left : bank ≡ bank_after_write clock.bank (record { row = row; line = line; bytes = bytes; given = given }) answer
  pub holds : (h : List (BankEvent n)) (array : ArrayState n m) → Holds h clock.bank array → Holds (Write row line bytes given answer ∷ h) bank array

-- each row still has its place in the results
write-rows : {n : ℕ} (row tick : ℕ) (results : List (Outcome n)) (answer : WriteAnswer) → length (write_recorded answer tick row results) ≡ length results
write-rows row tick results wrote.Accepted = refl
write-rows row tick results (wrote.Merged old) = rows-set results old (out.Merged tick)
write-rows row tick results wrote.Full = rows-set results row (out.Full tick)
write-rows row tick results wrote.Exhausted = rows-set results row (out.Worn tick)

module _ {n m e : ℕ} where
  -- a write is merged into the entry of a row that stands in the queue
  merges-into : (row line : ℕ) (bytes : List ℕ) (given : List Bool) (clock : ClockState n m e) (old : ℕ) (bank : BankState n m e) (array : ArrayState n m) (xs : List (TimedEvent n m)) → Leads xs clock array
      → bank.kept.shape ≡ clock.bank.kept.shape → Holds (Write row line bytes given (wrote.Merged old) ∷ core xs) bank array → has_row clock.bank.kept.entries old ≡ true
  merges-into row line bytes given clock old bank array xs leads same holds =
      let shape : BankShape = clock.bank.kept.shape in
      let h : List (BankEvent n) = core xs in
      let may = (subst (λ (shape : BankShape). MayAll shape (most_steps e) (Write row line bytes given (wrote.Merged old) ∷ h)) same holds.past).0 in
      let told = answer_merged shape h (has_exhausted h) (candidate (head_busy_after shape h) (queue shape h) line) old may.2 in
      subst (λ (es : List (Entry n)). has_row es old ≡ true) (sym leads.holds.entries) (candidate-there (head_busy_after shape h) (queue shape h) line old told.1)

  -- the row that a write is merged into, if there is one
  abbrev Stands : BankState n m e → WriteAnswer → Type 0
  Stands bank (wrote.Merged old) = has_row bank.kept.entries old ≡ true
  Stands bank _ = Unit {0}

  -- each row has the outcome that the write makes of it, or else the one that it had
  write-outcomes : (row line : ℕ) (bytes : List ℕ) (given : List Bool) (clock : ClockState n m e) (results : List (Outcome n)) → AreOpen clock.bank results → IsOpen results row
      → (answer : WriteAnswer) → Stands clock.bank answer → (ws : List Awaited) (at : ℕ) → HasRow results at
      → outcome_in (write_recorded answer clock.tick row results) at ≡ unwrap_or (outcome_by ws (Write row line bytes given answer) clock.tick at) (outcome_in results at)
  write-outcomes row line bytes given clock results unset fresh wrote.Accepted stands ws at there = refl
  write-outcomes row line bytes given clock results unset fresh (wrote.Merged old) stands ws at there = in-set results old (out.Merged clock.tick) at (unset.queued old stands).exists there
  write-outcomes row line bytes given clock results unset fresh wrote.Full stands ws at there = in-set results row (out.Full clock.tick) at fresh.exists there
  write-outcomes row line bytes given clock results unset fresh wrote.Exhausted stands ws at there = in-set results row (out.Worn clock.tick) at fresh.exists there

  -- a bank that answered a write has the work that it had
  write-keeps : (bank : BankState n m e) (entry : Entry n) (answer : WriteAnswer) → KeepsWork bank (bank_after_write bank entry answer)
  write-keeps bank entry wrote.Accepted = record { shape = refl; items = λ item. refl; running = refl; lost = refl }
  write-keeps bank entry (wrote.Merged old) = record { shape = refl; items = λ item. refl; running = refl; lost = refl }
  write-keeps bank entry wrote.Full = record { shape = refl; items = λ item. refl; running = refl; lost = refl }
  write-keeps bank entry wrote.Exhausted = record { shape = refl; items = λ item. refl; running = refl; lost = refl }

module _ {n m e row line : ℕ} {bytes : List ℕ} {given : List Bool} {clock : ClockState n m e} {results : List (Outcome n)} {answer : WriteAnswer} {bank : BankState n m e}
    (w : TakesWrite row line bytes given clock results answer bank) where
  abbrev entry_of : Entry n
  entry_of = record { row = row; line = line; bytes = bytes; given = given }

  -- the bank has the work that it had
  keeps : KeepsWork clock.bank bank
  keeps = subst (λ (b : BankState n m e). KeepsWork clock.bank b) (sym w.left) (write-keeps clock.bank entry_of answer)

  -- the row that the write is merged into stands in the queue
  stands-by : (xs : List (TimedEvent n m)) (array : ArrayState n m) → Leads xs clock array → Stands clock.bank answer
  stands-by xs array leads = by answer (w.holds (core xs) array leads.holds)
    where
      by : (answer : WriteAnswer) → Holds (Write row line bytes given answer ∷ core xs) bank array → Stands clock.bank answer
      by wrote.Accepted after = tt
      by (wrote.Merged old) after = merges-into row line bytes given clock old bank array xs leads keeps.shape after
      by wrote.Full after = tt
      by wrote.Exhausted after = tt

  -- each history that led to the clock goes on with the arrival of the write
  write-extends : (index : ℕ) → IsIndexOf bank.kept row index answer → (xs : List (TimedEvent n m)) (array : ArrayState n m) → Leads xs clock array
      → Extends xs (arrival clock.tick (Write row line bytes given (write_from clock.bank line)) ∷ []) clock (after_write clock bank index answer) array array results (write_recorded answer clock.tick row results)
  write-extends index at xs array leads =
      subst (λ (a : WriteAnswer). Extends xs (arrival clock.tick (Write row line bytes given a) ∷ []) clock (after_write clock bank index answer) array array results (write_recorded answer clock.tick row results)) (sym w.answered)
      (record {
        leads = write_law n m e row line index bytes given answer xs clock bank array leads (RowsBelow-more (core xs) clock.bank.rows_below row w.rises leads.holds.rows) keeps (w.holds (core xs) array leads.holds) at;
        shape = keeps.shape;
        pace = refl;
        adds = arrival_added_law n m clock.tick clock.bank.kept.shape (Write row line bytes given answer) array;
        rows = write-rows row clock.tick results answer;
        outcomes = λ at there. write-outcomes row line bytes given clock results w.unset w.fresh answer (stands-by xs array leads) (waits clock.bank.kept.shape (core xs)) at there;
      })

  -- each other row that neither stood in the queue nor waited keeps its outcome
  write-others : (index : ℕ) → IsIndexOf bank.kept row index answer → LeavesOthersThan row clock.bank results (write_recorded answer clock.tick row results)
  write-others index at =
      arrival-others row (Write row line bytes given (write_from clock.bank line)) clock (after_write clock bank index answer) w.led.1 results (write_recorded answer clock.tick row results)
      (λ other apart. no-other row other apart) w.led.0 w.led.2 (write-extends index at w.led.0 w.led.1 w.led.2)

  -- the entries are those of the history that the write extends
  entries-then : (xs : List (TimedEvent n m)) (array : ArrayState n m) → Leads xs clock array → bank.kept.entries ≡ queue clock.bank.kept.shape (Write row line bytes given answer ∷ core xs)
  entries-then xs array leads = (w.holds (core xs) array leads.holds).entries ∙ ap (λ shape. queue shape (Write row line bytes given answer ∷ core xs)) keeps.shape

  -- the same reads wait
  waiting-then : bank.waiting ≡ clock.bank.waiting
  waiting-then = ap (λ (b : BankState n m e). b.waiting) w.left ∙ by answer
    where
      by : (answer : WriteAnswer) → (bank_after_write clock.bank entry_of answer).waiting ≡ clock.bank.waiting
      by wrote.Accepted = refl
      by (wrote.Merged old) = refl
      by wrote.Full = refl
      by wrote.Exhausted = refl

  -- the rows that stand in the bank then have no outcome
  write-unset : AreOpen bank (write_recorded answer clock.tick row results)
  write-unset =
      subst (λ (ws : List (Waiting n)). StandOpen bank.kept.entries ws (write_recorded answer clock.tick row results)) (sym waiting-then)
      (subst (λ (es : List (Entry n)). StandOpen es clock.bank.waiting (write_recorded answer clock.tick row results)) (sym (entries-then w.led.0 w.led.1 w.led.2 ∙ now answer))
      (by answer (stands-by w.led.0 w.led.1 w.led.2)))
    where
      apart : AreApart clock.bank.kept.entries clock.bank.waiting clock.bank.rows_below
      apart = apart_law n m e w.led.0 clock w.led.1 w.led.2

      -- the queue then, over that of before
      after : WriteAnswer → List (Entry n) → List (Entry n)
      after wrote.Accepted es = es ++ entry_of ∷ []
      after (wrote.Merged old) es = merged old row bytes given es
      after wrote.Full es = es
      after wrote.Exhausted es = es

      now : (answer : WriteAnswer) → queue clock.bank.kept.shape (Write row line bytes given answer ∷ core w.led.0) ≡ after answer clock.bank.kept.entries
      now wrote.Accepted = ap (λ (es : List (Entry n)). es ++ entry_of ∷ []) (sym w.led.2.holds.entries)
      now (wrote.Merged old) = ap (λ (es : List (Entry n)). merged old row bytes given es) (sym w.led.2.holds.entries)
      now wrote.Full = sym w.led.2.holds.entries
      now wrote.Exhausted = sym w.led.2.holds.entries

      stay : (o : Outcome n) → StandOpen clock.bank.kept.entries clock.bank.waiting (with_outcome results row o)
      stay o = stay-unset clock.bank.kept.entries clock.bank.waiting results row o w.fresh.exists (apart.queued_below row w.rises) (apart.waiting_below row w.rises) w.unset

      by : (answer : WriteAnswer) → Stands clock.bank answer → StandOpen (after answer clock.bank.kept.entries) clock.bank.waiting (write_recorded answer clock.tick row results)
      by wrote.Accepted stands = pushed-unset clock.bank.kept.entries clock.bank.waiting clock.bank.rows_below row bytes given results apart w.rises w.unset w.fresh entry_of refl
      by (wrote.Merged old) stands = merged-unset clock.bank.kept.entries clock.bank.waiting clock.bank.rows_below row bytes given results apart w.rises w.unset w.fresh old (out.Merged clock.tick) stands
      by wrote.Full stands = stay (out.Full clock.tick)
      by wrote.Exhausted stands = stay (out.Worn clock.tick)

  -- the bank is still one that its clock may have
  pub write-clock : {pace : Pace} {capacity : ℕ} → IsClock clock.bank clock.regs pace clock.tick clock.action capacity → IsClock bank clock.regs pace clock.tick clock.action capacity
  write-clock inv =
      record {
        layout = inv.layout;
        paced = inv.paced;
        room = inv.room ∙ ap (λ shape. shape.writes) (sym keeps.shape);
        begun = inv.begun;
        idle = inv.idle;
        fit = subst (λ (b : BankState n m e). IsFit b clock.regs clock.action) (sym w.left) (by answer);
      }
    where
      by : (answer : WriteAnswer) → IsFit (bank_after_write clock.bank entry_of answer) clock.regs clock.action
      by wrote.Accepted = fit_write_law n m e entry_of clock.action clock.bank clock.regs inv.fit
      by (wrote.Merged old) = fit_write_law n m e entry_of clock.action clock.bank clock.regs inv.fit
      by wrote.Full = fit-same clock.bank clock.regs (row + 1) clock.action inv.fit
      by wrote.Exhausted = fit-same clock.bank clock.regs (row + 1) clock.action inv.fit

  -- the bound below which rows came is just above this row
  write-bound : bank.rows_below ≡ row + 1
  write-bound = ap (λ (b : BankState n m e). b.rows_below) w.left ∙ by answer
    where
      by : (answer : WriteAnswer) → (bank_after_write clock.bank entry_of answer).rows_below ≡ row + 1
      by wrote.Accepted = refl
      by (wrote.Merged old) = refl
      by wrote.Full = refl
      by wrote.Exhausted = refl

  -- all that the write promises
  pub write-arrives : (index : ℕ) → IsIndexOf bank.kept row index answer → (array : ArrayState n m)
      → Arrives row (Write row line bytes given (write_from clock.bank line)) (λ xs. []) clock (after_write clock bank index answer) array array results (write_recorded answer clock.tick row results)
  write-arrives index at array = record {
    now = refl;
    drained = refl;
    rows = write-bound;
    extends = λ xs leads. write-extends index at xs array leads;
    unset = write-unset;
    others = write-others index at;
  }

module _ {n m e row line old : ℕ} {bytes : List ℕ} {given : List Bool} {clock : ClockState n m e} {results : List (Outcome n)} {bank : BankState n m e}
    (w : TakesWrite row line bytes given clock results (wrote.Merged old) bank) where
  -- the row that a merge ends has no outcome yet
  pub merge-unset : IsOpen results old
  merge-unset = w.unset.queued old (stands-by w w.led.0 w.led.1 w.led.2)

  -- the entry into which it is merged has an arrival tick
  pub merge-room : (index : ℕ) → IsIndexOf bank.kept row index (wrote.Merged old) → index < length clock.arrivals
  merge-room index at =
      let queued : List (Entry n) = queue clock.bank.kept.shape (core w.led.0) in
      let told = ap length w.led.2.told.arrived ∙ length-map queued _ in
      let now = ap length (entries-then w w.led.0 w.led.1 w.led.2) ∙ length-merged old row bytes given queued in
      let within = some-within row bank.kept.entries index at in
      omega (arith, told, now, within)

-- there is room for the arrival tick of a write that is accepted
pub accept-room : {n m e row line : ℕ} {bytes : List ℕ} {given : List Bool} {clock : ClockState n m e} {results : List (Outcome n)} {bank : BankState n m e}
    → TakesWrite row line bytes given clock results wrote.Accepted bank → length clock.arrivals < bank.kept.shape.writes
accept-room {n = n} {row = row} {line = line} {bytes = bytes} {given = given} {clock = clock} {bank = bank} w =
    let queued : List (Entry n) = queue clock.bank.kept.shape (core w.led.0) in
    let told = ap length w.led.2.told.arrived in
    let queued-now = ap length (entries-then w w.led.0 w.led.1 w.led.2) in
    plain (length clock.arrivals) (length queued) bank.kept.shape.writes (length bank.kept.entries) (told ∙ length-map queued _)
    (queued-now ∙ length-append queued (record { row = row; line = line; bytes = bytes; given = given } ∷ [])) (w.holds (core w.led.0) w.led.1 w.led.2.holds).kept.few_entries
  where
    plain : (arrivals queued writes entries : ℕ) → arrivals ≡ queued → entries ≡ queued + 1 → entries ≤ writes → arrivals < writes
    plain arrivals queued writes entries told is few = omega (arith, told, is, few)
