-- That what a bank answers to a write keeps the invariant.
use Rattle.std.proofs.Common.{◌≡◌, ℕ, zero, suc, ◌+◌, ◌<◌, ◌≤◌, nat_lt, refl, sym, ap, subst, ◌∙◌, arith, Bool, true, false, if◌then◌else◌, List, [], ◌∷◌, length, slice_get, Option, Some, None}
use Rattle.std.specs.Prelude.{IsSomeAnd}
use Rattle.masked_bytes.specs.{Entries.{candidate_index, merged_at}, Masked.IsMasked, declared.entry.Entry.Entry}
use Rattle.masked_bytes.proofs.Queueing.{newest_index-within, candidate_index-newest}
use Rattle.protected_queue.specs.{Queue.{accept_answer, answer_by, accepted, accepted_by}, declared.accept.Accept.Accept}
use Rattle.protected_queue.specs.declared.accept.Accept.TheVariants as became
use Rattle.cell_rows.specs.Device.{ArrayState}
use Rattle.line_writer.specs.Writing.{most_steps}
use Rattle.power_recovery.specs.{Kept.KeptState, Slots.bank_lines}
use Rattle.bank_shape.specs.declared.answer.WriteAnswer.{WriteAnswer}
use Rattle.bank_shape.specs.declared.answer.WriteAnswer.TheVariants as wrote
use Rattle.bank_model.specs.{Answers.{MayHappen, write_answer}, Events.{BankEvent, Write}}
use Rattle.bank_invariant.{specs.Holds.Holds, specs.State.{BankState, is_storing}, specs.Tied.IsTied, specs.WriteAnswers.written, specs.Writes.taken, proofs.Agreeing.agree_law}
use Rattle.bank_invariant.proofs.{Answering.{write_answer_law, refusal_law, kept-full}, Arriving.{accepted_write_law, merged_write_law}}
use Rattle.bank_invariant.proofs.Taking.{full_law, exhausted_write_law, tied-taken}
use Rattle.bank_core.specs.{Arriving.{arrived_as, IsMergedAt}, Steps.{write_from, after_write}}

module _ {n : ℕ} where
  laid_there : (es : List (Entry n)) (i row : ℕ) (bytes : List ℕ) (given : List Bool) → i < length es
      → IsSomeAnd (slice_get (merged_at i row bytes given es) i) (λ entry. entry.row ≡ row)
  laid_there [] i row bytes given within = absurd (omega arith)
  laid_there (e ∷ es) zero row bytes given within = refl
  laid_there (e ∷ es) (suc i) row bytes given within = laid_there es i row bytes given (omega arith)

  -- where a write was merged its row stands
  pub merged_there : (places : ℕ) (busy : Bool) (entry : Entry n) (es : List (Entry n))
      → IsMergedAt (accepted places busy entry es) entry.row (arrived_as (accept_answer places busy es entry.line))
  merged_there places busy entry es =
      by (candidate_index busy es entry.line)
      (λ i is. newest_index-within es entry.line i (candidate_index-newest busy es entry.line i is)) (nat_lt (length es) places)
    where
      by : (place : Option ℕ) → ((i : ℕ) → place ≡ Some i → i < length es) → (room : Bool)
          → IsMergedAt (accepted_by place room entry es) entry.row (arrived_as (answer_by place room es))
      by (Some i) within room = laid_there es i entry.row entry.bytes entry.given (within i refl)
      by None within true = tt
      by None within false = tt

module _ {n m e : ℕ} where
  -- a bank answers a write as its history says
  as_history : (line : ℕ) (h : List (BankEvent n)) (bank : BankState n m e) (array : ArrayState n m) → Holds h bank array
      → write_from bank line ≡ write_answer bank.kept.shape h line
  as_history line h bank array holds = by bank.kept.exhausted refl
    where
      by : (worn : Bool) → bank.kept.exhausted ≡ worn
          → (if worn then wrote.Exhausted else written (accept_answer bank.kept.shape.writes (is_storing bank.running) bank.kept.entries line)) ≡ write_answer bank.kept.shape h line
      by true is = refusal_law n m e line h bank array holds is
      by false is = write_answer_law n m e line (is_storing bank.running) h bank array holds is (agree_law n m e h bank array holds).storing

  pub write_law : (row line : ℕ) (bytes : List ℕ) (given : List Bool) (h : List (BankEvent n)) (bank : BankState n m e) (array : ArrayState n m) (answer : WriteAnswer)
      → answer ≡ write_from bank line → line < bank_lines bank.kept.shape → bank.rows_below ≤ row → IsMasked n bytes given
      → Holds h bank array
      → Holds (Write row line bytes given answer ∷ h) (after_write bank (record { row = row; line = line; bytes = bytes; given = given }) answer) array
  write_law row line bytes given h bank array answer is below above masked holds = by answer (below, masked, is ∙ as_history line h bank array holds)
    where
      by : (answer : WriteAnswer) → MayHappen bank.kept.shape h (most_steps e) (Write row line bytes given answer)
          → Holds (Write row line bytes given answer ∷ h) (after_write bank (record { row = row; line = line; bytes = bytes; given = given }) answer) array
      by wrote.Accepted may = accepted_write_law n m e row line bytes given h bank array holds above may
      by (wrote.Merged old) may = merged_write_law n m e row line old bytes given h bank array holds above may
      by wrote.Full may = full_law n m e row line bytes given h bank array holds above may
      by wrote.Exhausted may = exhausted_write_law n m e row line bytes given h bank array holds above may

  -- what a bank answers that takes writes
  pub write_open : (bank : BankState n m e) (line : ℕ) → bank.kept.exhausted ≡ false
      → written (accept_answer bank.kept.shape.writes (is_storing bank.running) bank.kept.entries line) ≡ write_from bank line
  write_open bank line going =
      sym (ap (λ b. if b then wrote.Exhausted else written (accept_answer bank.kept.shape.writes (is_storing bank.running) bank.kept.entries line)) going)

  pub write_worn : (bank : BankState n m e) (line : ℕ) → bank.kept.exhausted ≡ true → wrote.Exhausted ≡ write_from bank line
  write_worn bank line worn =
      sym (ap (λ b. if b then wrote.Exhausted else written (accept_answer bank.kept.shape.writes (is_storing bank.running) bank.kept.entries line)) worn)

  -- whatever its queue answered, the bank is as that says
  pub taken_law : (bank : BankState n m e) (entry : Entry n)
      → taken (is_storing bank.running) entry bank
      ≡ after_write bank entry (written (accept_answer bank.kept.shape.writes (is_storing bank.running) bank.kept.entries entry.line))
  taken_law bank entry = by (accept_answer bank.kept.shape.writes (is_storing bank.running) bank.kept.entries entry.line) refl
    where
      with_kept : KeptState n → BankState n m e
      with_kept kept = record { kept = kept; running = bank.running; waiting = bank.waiting; lost = bank.lost; rows_below = entry.row + 1 }

      by : (answer : Accept) → accept_answer bank.kept.shape.writes (is_storing bank.running) bank.kept.entries entry.line ≡ answer
          → taken (is_storing bank.running) entry bank ≡ after_write bank entry (written answer)
      by became.Pushed is = refl
      by (became.Merged row index) is = refl
      by became.Full is = ap with_kept (kept-full (is_storing bank.running) entry bank.kept is)

  pub taken_holds : (entry : Entry n) (h : List (BankEvent n)) (bank : BankState n m e) (array : ArrayState n m)
      → bank.kept.exhausted ≡ false → entry.line < bank_lines bank.kept.shape → bank.rows_below ≤ entry.row → IsMasked n entry.bytes entry.given
      → Holds h bank array
      → Holds (Write entry.row entry.line entry.bytes entry.given (written (accept_answer bank.kept.shape.writes (is_storing bank.running) bank.kept.entries entry.line)) ∷ h)
      (taken (is_storing bank.running) entry bank) array
  taken_holds entry h bank array going below above masked holds =
      let answer : WriteAnswer = written (accept_answer bank.kept.shape.writes (is_storing bank.running) bank.kept.entries entry.line) in
      let P : BankState n m e → Type 0 = λ b. Holds (Write entry.row entry.line entry.bytes entry.given answer ∷ h) b array in
      subst P (sym (taken_law bank entry))
      (write_law entry.row entry.line entry.bytes entry.given h bank array answer (write_open bank entry.line going) below above masked holds)

  pub taken_tied : (entry : Entry n) (bank : BankState n m e) (array : ArrayState n m) → bank.kept.exhausted ≡ false
      → IsTied bank array → IsTied (taken (is_storing bank.running) entry bank) array
  taken_tied entry bank array going tied = tied-taken bank.kept array bank.waiting (is_storing bank.running) entry bank.running refl going tied
