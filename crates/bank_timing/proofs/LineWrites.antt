-- A begin or an iteration of a line write ends: what becomes of the clock, the array and the results.
use Rattle.std.proofs.Common.{◌≡◌, ℕ, ◌+◌, ◌<◌, ◌≤◌, nat_lt, if◌then◌else◌, Bool, true, false, List, [], ◌∷◌, length, drop, Option, Some, None, refl, sym, ap, subst, ◌∙◌, arith, ltb-true}
use Rattle.std.{specs.Prelude.{unwrap_or, IsSomeAnd, IsTrue, slice_get}, proofs.lemmas.Bool.false≢true, proofs.lemmas.List.Elements.{All-nil, All-cons}}
use Rattle.masked_bytes.specs.{Entries.{head_row, completed}, Masked.laid, declared.entry.Entry.Entry}
use Rattle.cell_rows.specs.Device.{ArrayState}
use Rattle.result_rows.specs.{Table.{HasRow, with_outcome}, declared.Outcome.Outcome}
use Rattle.result_rows.specs.declared.Outcome.TheVariants as out
use Rattle.spare_pool.specs.Table.{used_by}
use Rattle.bank_shape.specs.{Kinds.{is_store, is_copy}, Shape.slots_of, declared.Work.Work, declared.Work.TheVariants.{Nothing, Store, Copy}, declared.answer.Step.Step}
use Rattle.bank_shape.specs.declared.clock.Action.{Action}
use Rattle.bank_shape.specs.declared.answer.Step.TheVariants as did
use Rattle.line_writer.specs.{Writing.{HasBegun, steps_left, most_steps}, declared.writer.LineWriter.LineWriter, declared.writer.Progress.Progress}
use Rattle.line_writer.specs.declared.writer.Progress.TheVariants as progress
use Rattle.power_recovery.specs.{Events.{stored_kept, moved_kept, retired_kept, exhausted_kept}, Kept.{KeptState, IsKept, target_slot, next_work}}
use Rattle.power_recovery.proofs.Bundle.{next_work-store}
use Rattle.bank_model.specs.{Events.BankEvent, History.Awaited, Timing.{TimedEvent, Core, ends}}
use Rattle.bank_laws.specs.{Outcomes.{outcome_by, step_outcome}, Ticks.ends_action}
use Rattle.bank_invariant.specs.State.{BankState, Operation, is_free, target_of}
use Rattle.ecp_line.specs.ArrayLines.{decoded}
use Rattle.reg_lines.specs.Regs.{RegsState}
use Rattle.clock_laws.specs.{Actions.{GoesOn, LeavesBegun, LeavesIterated}, Completing.{completed as completed_event, after_action}, Leads.Leads, Putting.{item_by, put_if}}
use Rattle.clock_laws.{specs.Remaining.actions_left, specs.Standing.AreApart, specs.State.ClockState, proofs.Remaining.falling_law}
use Rattle.bank_core.specs.{Beginning.{bytes_for, begun_kept, head_over}, Stepping.{with_kept, step_from, left_by}}
use Rattle.bank_timing.specs.{Completing.{Completes, IsRecordable, step_recorded}, Extending.{outcome_in, StandOpen, AreOpen, EndsAction}}
use Rattle.bank_timing.proofs.{Changes.{Puts, puts-more, puts-completed, puts-store, puts-store-completed, puts-copy, puts-worn}, Rows.{rows-set, in-set}, Serves.end-extends}
use Rattle.bank_timing.proofs.Standing.{head-there, completed-unset, stored-unset}

-- What is recorded

module _ {n : ℕ} (results : List (Outcome n)) (tick : ℕ) where
  step-rows : (answer : Step) → length (step_recorded answer tick results) ≡ length results
  step-rows did.More = refl
  step-rows (did.Stored row place) = rows-set results row (out.Stored tick place)
  step-rows (did.Moved step) = refl
  step-rows (did.Retired slot line) = refl
  step-rows did.Exhausted = refl

  step-outcomes : (answer : Step) → IsRecordable answer results → (row : ℕ) → HasRow results row
      → outcome_in (step_recorded answer tick results) row ≡ unwrap_or (step_outcome answer tick row) (outcome_in results row)
  step-outcomes did.More own row there = refl
  step-outcomes (did.Stored at place) own row there = in-set results at (out.Stored tick place) row own.exists there
  step-outcomes (did.Moved step) own row there = refl
  step-outcomes (did.Retired slot line) own row there = refl
  step-outcomes did.Exhausted own row there = refl

-- a change that is put isn't being written
put-writer : {n m e : ℕ} (regs : RegsState n m e) (item : Option ℕ) (kept : KeptState n) → regs.writer ≡ None → (put_if item kept regs).writer ≡ None
put-writer regs None kept idle = idle
put-writer regs (Some item) kept idle = idle

-- what a step of a line write leaves of a bank whose next work it is of, and of its control lines
pub record Steps {n m e : ℕ} (old : BankState n m e) (regs : RegsState n m e) (new : BankState n m e) (answer : Step) (tick : ℕ) (results : List (Outcome n)) : Type 0 where
  pub shape : new.kept.shape ≡ old.kept.shape
  pub lost : new.lost ≡ old.lost
  pub bound : new.rows_below ≡ old.rows_below
  pub unset : IsRecordable answer results
  pub left : AreOpen new (step_recorded answer tick results)
  pub less : actions_left new (put_if (item_by old.kept answer) new.kept regs) < actions_left old regs
  pub puts : Puts old.kept new.kept regs answer

module _ {n m e : ℕ} (clock : ClockState n m e) (action : Action) (answer : Step) (bank : BankState n m e) (old new : ArrayState n m) (results : List (Outcome n)) where
  abbrev regs : RegsState n m e
  regs = put_if (item_by clock.bank.kept answer) bank.kept clock.regs

  pub step-completes : (event : BankEvent n) → ((ws : List Awaited) (tick row : ℕ) → outcome_by ws event tick row ≡ step_outcome answer tick row)
      → IsTrue (ends_action (Core event))
      → clock.tick < ends clock.pace action → Steps clock.bank clock.regs bank answer (ends clock.pace action) results
      → ((xs : List (TimedEvent n m)) → Leads xs clock old → GoesOn xs clock bank regs event action old new)
      → Completes clock (after_action clock bank regs action event) action old new results (step_recorded answer (ends clock.pace action) results)
  step-completes event outcome ends_one later steps goes = record {
    now = refl;
    later = later;
    pace = refl;
    drained = refl;
    none = refl;
    extends = λ xs leads. (
      completed_event xs clock action event new,
      end-extends xs clock bank regs action event old new results (step_recorded answer (ends clock.pace action) results) (goes xs leads) steps.shape (step-rows results (ends clock.pace action) answer)
          (λ row there. step-outcomes results (ends clock.pace action) answer steps.unset row there ∙ ap (λ (o : Option (Outcome n)). unwrap_or o (outcome_in results row)) (sym (outcome _ (ends clock.pace action) row))),
      All-cons (λ (x : TimedEvent n m). EndsAction x) (completed_event xs clock action event new) [] ends_one (All-nil (λ (x : TimedEvent n m). EndsAction x)),
    );
    unset = steps.left;
    bound = steps.bound;
    less = steps.less;
  }

-- Begins

module _ {n m e : ℕ} (bank : BankState n m e) (array : ArrayState n m) (tick : ℕ) (results : List (Outcome n)) (target : ℕ) (writer : LineWriter n m e)
    (range : IsKept bank.kept) (none : bank.running ≡ None) (apart : AreApart bank.kept.entries bank.waiting bank.rows_below) (unset : AreOpen bank results) (few : steps_left writer ≤ most_steps e)
    (regs : RegsState n m e) (alone : regs.change ≡ None) (idle : regs.writer ≡ None) where
  abbrev op_of : Work → Operation n m e
  op_of work = record { work = work; target = target; writer = writer }

  abbrev begun_bank : Work → BankState n m e
  begun_bank work = with_kept bank (begun_kept e bank.kept array work)

  pub begin-steps : (work : Work) (p : Progress) → next_work bank.kept ≡ work → is_free bank.waiting work ≡ true → HasBegun p
      → Steps bank regs (left_by (begun_bank work) (op_of work) (op_of work) p) (step_from bank.kept (op_of work) p) tick results
  begin-steps Nothing p is free begun = absurd (false≢true free)
  begin-steps (Store line slot) progress.More is free begun = record {
    shape = refl;
    lost = refl;
    bound = refl;
    unset = tt;
    left = completed-unset _ bank.kept.entries bank.waiting results unset;
    less = (falling_law n m e bank regs).after_begin_of_store _ (op_of (Store line slot)) alone none few;
    puts = puts-completed regs bank.kept range _;
  }
  begin-steps (Store line slot) progress.Stored is free begun =
      let next = next_work-store bank.kept (ap is_store is) in
      record {
        shape = refl;
        lost = refl;
        bound = refl;
        unset = unset.queued (head_row bank.kept.entries) (head-there bank.kept.entries next.2);
        left = subst (λ (es : List (Entry n)). StandOpen es bank.waiting (with_outcome results (head_row bank.kept.entries) (out.Stored tick target))) (sym (rest-completed _ bank.kept.entries))
            (stored-unset bank.kept.entries bank.waiting bank.rows_below results (out.Stored tick target) next.2 apart unset);
        less = (falling_law n m e bank regs).after_store_at_once (put_if (item_by bank.kept (did.Stored 0 0)) (stored_kept (begun_kept e bank.kept array (Store line slot))) regs) _ (put-writer regs (item_by bank.kept (did.Stored 0 0)) (stored_kept (begun_kept e bank.kept array (Store line slot))) idle) (ap is_store is);
        puts = puts-store-completed regs bank.kept range _ _ target (ap is_store is);
      }
    where
      rest-completed : (under : List ℕ) (es : List (Entry n)) → drop 1 (completed under es) ≡ drop 1 es
      rest-completed under [] = refl
      rest-completed under (e ∷ es) = refl
  begin-steps (Store line slot) (progress.Worn cause) is free begun = absurd begun
  begin-steps (Copy region step) progress.More is free begun = record {
    shape = refl;
    lost = refl;
    bound = refl;
    unset = tt;
    left = unset;
    less = (falling_law n m e bank regs).after_begin_of_copy (op_of (Copy region step)) alone none few;
    puts = puts-more regs bank.kept range;
  }
  begin-steps (Copy region step) progress.Stored is free begun = record {
    shape = refl;
    lost = refl;
    bound = refl;
    unset = tt;
    left = unset;
    less = (falling_law n m e bank regs).after_copy (put_if (item_by bank.kept (did.Moved step)) (moved_kept bank.kept) regs) (put-writer regs (item_by bank.kept (did.Moved step)) (moved_kept bank.kept) idle) range (ap is_copy is);
    puts = puts-copy regs bank.kept range step (ap is_copy is);
  }
  begin-steps (Copy region step) (progress.Worn cause) is free begun = absurd begun

  -- and of the bytes that it writes, or that its line is read as already
  pub begin-leaves : (work : Work) (p : Progress) → next_work bank.kept ≡ work → is_free bank.waiting work ≡ true → HasBegun p
      → writer.bytes ≡ bytes_for e bank.kept array work → target ≡ target_of bank.kept work → (p ≡ progress.Stored → decoded e array target ≡ writer.bytes)
      → LeavesBegun bank.kept work array (left_by (begun_bank work) (op_of work) (op_of work) p).running (step_from bank.kept (op_of work) p)
  begin-leaves Nothing p is free begun bytes place stored = absurd (false≢true free)
  begin-leaves (Store line slot) progress.More is free begun bytes place stored = (refl, tt)
  begin-leaves (Store line slot) progress.Stored is free begun bytes place stored =
      (refl, head-read bank.kept.entries (next_work-store bank.kept (ap is_store is)).2 bytes)
    where
      there : decoded e array (target_of bank.kept (Store line slot)) ≡ writer.bytes
      there = ap (λ at. decoded e array at) (sym place) ∙ stored refl

      head-read : (es : List (Entry n)) → 0 < length es → writer.bytes ≡ head_over es (decoded e array (target_of bank.kept (Store line slot)))
          → IsSomeAnd (slice_get es 0) (λ head. laid head.bytes head.given (decoded e array (target_of bank.kept (Store line slot))) ≡ decoded e array (target_of bank.kept (Store line slot)))
      head-read [] some bytes = absurd (omega arith)
      head-read (head ∷ rest) some bytes = sym bytes ∙ sym there
  begin-leaves (Store line slot) (progress.Worn cause) is free begun bytes place stored = absurd begun
  begin-leaves (Copy region step) progress.More is free begun bytes place stored = (refl, bytes)
  begin-leaves (Copy region step) progress.Stored is free begun bytes place stored =
      (refl, ap (λ at. decoded e array at) (sym place) ∙ stored refl ∙ bytes)
  begin-leaves (Copy region step) (progress.Worn cause) is free begun bytes place stored = absurd begun

-- Iterations

module _ {n m e : ℕ} (bank : BankState n m e) (array : ArrayState n m) (tick : ℕ) (results : List (Outcome n)) (target : ℕ) (writer : LineWriter n m e) (now : Operation n m e)
    (range : IsKept bank.kept) (going : bank.kept.exhausted ≡ false) (apart : AreApart bank.kept.entries bank.waiting bank.rows_below) (unset : AreOpen bank results) (fewer : steps_left now.writer < steps_left writer)
    (regs : RegsState n m e) (alone : regs.change ≡ None) (idle : regs.writer ≡ None) where
  abbrev run_of : Work → Operation n m e
  run_of work = record { work = work; target = target; writer = writer }

  worn-steps : (slot : ℕ) (b : Bool) → nat_lt (used_by bank.kept.table) bank.kept.shape.spares ≡ b
      → Steps bank regs (record { kept = (if b then retired_kept slot bank.kept else exhausted_kept bank.kept); running = None; waiting = bank.waiting; lost = bank.lost; rows_below = bank.rows_below })
      (if b then did.Retired slot (slots_of bank.kept.shape + used_by bank.kept.table) else did.Exhausted) tick results
  worn-steps slot true is = record {
    shape = refl;
    lost = refl;
    bound = refl;
    unset = tt;
    left = unset;
    puts = puts-worn regs bank.kept range slot true is;
    less = (falling_law n m e bank regs).after_retirement (put_if (item_by bank.kept (did.Retired slot 0)) (retired_kept slot bank.kept) regs) slot (put-writer regs (item_by bank.kept (did.Retired slot 0)) (retired_kept slot bank.kept) idle) (subst (λ (spares : ℕ). used_by bank.kept.table < spares) (sym range.spares) (ltb-true (used_by bank.kept.table) bank.kept.shape.spares is));
  }
  worn-steps slot false is = record { shape = refl; lost = refl; bound = refl; unset = tt; left = unset; puts = puts-worn regs bank.kept range slot false is; less = (falling_law n m e bank regs).after_exhaustion (put_if (item_by bank.kept did.Exhausted) (exhausted_kept bank.kept) regs) (put-writer regs (item_by bank.kept did.Exhausted) (exhausted_kept bank.kept) idle) going }

  pub iterate-steps : (work : Work) (p : Progress) → next_work bank.kept ≡ work → bank.running ≡ Some (run_of work) → (work ≡ Nothing → ⊥)
      → Steps bank regs (left_by bank (run_of work) now p) (step_from bank.kept (run_of work) p) tick results
  iterate-steps work progress.More is running some = record {
    shape = refl;
    lost = refl;
    bound = refl;
    unset = tt;
    left = unset;
    less = (falling_law n m e bank regs).after_iteration (run_of work) now alone running fewer;
    puts = puts-more regs bank.kept range;
  }
  iterate-steps Nothing progress.Stored is running some = absurd (some refl)
  iterate-steps (Store line slot) progress.Stored is running some =
      let next = next_work-store bank.kept (ap is_store is) in
      record {
        shape = refl;
        lost = refl;
        bound = refl;
        unset = unset.queued (head_row bank.kept.entries) (head-there bank.kept.entries next.2);
        left = stored-unset bank.kept.entries bank.waiting bank.rows_below results (out.Stored tick target) next.2 apart unset;
        less = (falling_law n m e bank regs).after_store (put_if (item_by bank.kept (did.Stored 0 0)) (stored_kept bank.kept) regs) (put-writer regs (item_by bank.kept (did.Stored 0 0)) (stored_kept bank.kept) idle) (ap is_store is);
        puts = puts-store regs bank.kept range _ target (ap is_store is);
      }
  iterate-steps (Copy region step) progress.Stored is running some = record {
    shape = refl;
    lost = refl;
    bound = refl;
    unset = tt;
    left = unset;
    less = (falling_law n m e bank regs).after_copy (put_if (item_by bank.kept (did.Moved step)) (moved_kept bank.kept) regs) (put-writer regs (item_by bank.kept (did.Moved step)) (moved_kept bank.kept) idle) range (ap is_copy is);
    puts = puts-copy regs bank.kept range step (ap is_copy is);
  }
  iterate-steps work (progress.Worn cause) is running some = worn-steps (target_slot bank.kept work) (nat_lt (used_by bank.kept.table) bank.kept.shape.spares) refl

  pub iterate-leaves : (work : Work) (p : Progress) → (work ≡ Nothing → ⊥) → now.work ≡ work → now.writer.bytes ≡ writer.bytes → (p ≡ progress.Stored → decoded e array target ≡ writer.bytes)
      → LeavesIterated (run_of work) array (left_by bank (run_of work) now p).running (step_from bank.kept (run_of work) p)
  iterate-leaves work progress.More some same bytes stored = (same, bytes)
  iterate-leaves Nothing progress.Stored some same bytes stored = absurd (some refl)
  iterate-leaves (Store line slot) progress.Stored some same bytes stored = (refl, stored refl)
  iterate-leaves (Copy region step) progress.Stored some same bytes stored = (refl, stored refl)
  iterate-leaves work (progress.Worn cause) some same bytes stored = by (nat_lt (used_by bank.kept.table) bank.kept.shape.spares)
    where
      by : (b : Bool) → LeavesIterated (run_of work) array None (if b then did.Retired (target_slot bank.kept work) (slots_of bank.kept.shape + used_by bank.kept.table) else did.Exhausted)
      by true = refl
      by false = refl
