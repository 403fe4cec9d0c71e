-- Each action leaves fewer to be taken.
use Rattle.std.proofs.Common.{◌≡◌, ◌≢◌, inl, inr, ℕ, ◌+◌, ◌*◌, ◌<◌, ◌≤◌, Bool, true, false, List, [], ◌∷◌, length, drop, Option, Some, None, is_some, refl, sym, ap, subst, ◌∙◌, arith, get_or-set_other}
use Rattle.std.{specs.Prelude.IsTrue, proofs.Math.Nat.{mul-le-mul_left, mul-add}, proofs.lemmas.Bool.cases_eq, proofs.lemmas.Grind.get_or-set_at, proofs.lemmas.List.length-append}
use Rattle.masked_bytes.specs.{Entries.completed, declared.entry.Entry.Entry}
use Rattle.region_regs.specs.Region.{RegionState, after_move}
use Rattle.spare_pool.specs.Table.{used_by}
use Rattle.line_writer.specs.{Writing.{steps_left, most_steps}, declared.writer.LineWriter.LineWriter}
use Rattle.power_recovery.specs.Events.{completed_kept, stored_kept, moved_kept, retired_kept, exhausted_kept}
use Rattle.power_recovery.specs.Kept.{KeptState, IsKept, no_region, region_at, due_region, next_work}
use Rattle.power_recovery.proofs.{Bundle.{due_region-Some, due_region-None, next_work-store, next_work-copy, IsKept-moved}, Frames.{moved_at, moved_kept-at, next_work-completed}}
use Rattle.bank_invariant.specs.{Beginning.begun_with, Retiring.ended, State.{BankState, Operation}}
use Rattle.bank_shape.specs.{Kinds.{is_store, is_copy}, declared.waiting.Waiting.Waiting}
use Rattle.bank_shape.specs.declared.answer.Keep.TheVariants as keep
use Rattle.bank_laws.proofs.Changing.{changed-idle}
use Rattle.reg_lines.specs.{Keeping.kept_on, Regs.RegsState, declared.Change.Change}
use Rattle.register_laws.specs.Telling.{item_of}
use Rattle.bank_model.{specs.After.due_moves, proofs.Within.due_moves-few}
use Rattle.clock_laws.{specs.Remaining.{last_attempts, attempts_left, attempt_left, keeping_left, present_left, actions_left, FallingLaw, OneWriteLaw}, proofs.Fitting.no_one}
use Rattle.clock_laws.proofs.Stepping.{some_item}

length-rest : {n : ℕ} (es : List (Entry n)) → 0 < length es → length (drop 1 es) + 1 ≡ length es
length-rest es some = grind arith

length-completed : {n : ℕ} (under : List ℕ) (es : List (Entry n)) → length (completed under es) ≡ length es
length-completed under es = grind arith

module _ {n : ℕ} (kept : KeptState n) where
  stored-fewer : is_store (next_work kept) ≡ true → attempts_left (stored_kept kept) < attempts_left kept
  stored-fewer stores =
      let store = next_work-store kept stores in
      let none : due_moves (due_region kept) ≡ 0 = ap due_moves store.1 in
      omega (arith, length-rest kept.entries store.2, due_moves-few (due_region (stored_kept kept)), none)

  none-due-moved : (region : ℕ) → IsKept kept → is_copy (next_work kept) ≡ true → due_region kept ≡ Some region → due_region (moved_kept kept) ≡ None
  none-due-moved region range copies due =
      due_region-None (moved_kept kept) (IsKept-moved kept range copies) (subst P (sym (moved_kept-at kept region due)) off)
    where
      P : KeptState n → Type 0
      P after = (at : ℕ) → at < kept.shape.regions → (region_at after at).counter ≢ (region_at after at).psi

      off : (at : ℕ) → at < kept.shape.regions → (region_at (moved_at kept region) at).counter ≢ (region_at (moved_at kept region) at).psi
      off at below full =
          let own = due_region-Some kept region range due in
          let moved : RegionState = after_move (region_at kept region) in
          elim (cases_eq at region) [
            | inl same ↦
                let there : region_at (moved_at kept region) at ≡ moved = get_or-set_at kept.regions region at moved no_region same (omega (arith, own.0, range.all_regions)) in
                let none : 0 ≡ (region_at kept region).psi = ap (λ r. r.counter) (sym there) ∙ full ∙ ap (λ r. r.psi) there in
                omega (arith, none, (range.regions region own.0).in_range.some_writes)
            | inr other ↦
                let there : region_at (moved_at kept region) at ≡ region_at kept at = get_or-set_other kept.regions region at moved no_region other in
                let still : (region_at kept at).counter ≡ (region_at kept at).psi = ap (λ r. r.counter) (sym there) ∙ full ∙ ap (λ r. r.psi) there in
                other (sym (range.one_due region at own.0 below (own.1 ∙ (range.regions region own.0).stores) (still ∙ (range.regions at below).stores)))
          ]

  moved-fewer : IsKept kept → is_copy (next_work kept) ≡ true → attempts_left (moved_kept kept) < attempts_left kept
  moved-fewer range copies =
      let copy = next_work-copy kept copies in
      let one : due_moves (due_region kept) ≡ 1 = ap due_moves copy.1.1 in
      let none : due_moves (due_region (moved_kept kept)) ≡ 0 = ap due_moves (none-due-moved copy.1.0 range copies copy.1.1) in
      omega (arith, one, none)

  retired-fewer : (slot : ℕ) → used_by kept.table < kept.table.spares → attempts_left (retired_kept slot kept) < attempts_left kept
  retired-fewer slot left = omega (arith, left, length-append kept.table.replaced (slot ∷ []))

  exhausted-fewer : kept.exhausted ≡ false → attempts_left (exhausted_kept kept) < attempts_left kept
  exhausted-fewer going = let one : last_attempts kept.exhausted ≡ 1 = ap last_attempts going in omega (arith, one)

  completed-same : (under : List ℕ) → attempts_left (completed_kept under kept) ≡ attempts_left kept
  completed-same under = omega (arith, length-completed under kept.entries)

-- a line write of the bank that ends leaves fewer, though it may put a change
both-fewer : (waiting most after before left now : ℕ) → after < before → now ≤ most + 2 + (most + 1) → waiting + (most + 2) * (2 * after) + now < waiting + (most + 2) * (2 * before) + left
both-fewer waiting most after before left now less few =
    let more : 2 * after + 2 ≤ 2 * before = omega (arith, less) in
    let all : (most + 2) * (2 * after + 2) ≤ (most + 2) * (2 * before) = mul-le-mul_left (most + 2) more in
    let one : (most + 2) * (2 * after + 2) ≡ (most + 2) * (2 * after) + (most + 2) * 2 = mul-add (most + 2) (2 * after) 2 in
    let two : (most + 2) * 2 ≡ (most + 2) + (most + 2) = omega arith in
    omega (arith, all, one, two, few)

module _ {n m e : ℕ} (bank : BankState n m e) (regs : RegsState n m e) where
  fewer-waiting : (ws : List (Waiting n)) → 0 < length ws → length (drop 1 ws) < length ws
  fewer-waiting ws some = grind arith

  -- what is left where nothing is in progress
  idle-left : (item : Option ℕ) (halted : Bool) (writer : Option (LineWriter n m e)) (running : Option (Operation n m e)) → writer ≡ None → running ≡ None
      → present_left item halted writer running ≤ most_steps e + 2 + (most_steps e + 1)
  idle-left item halted writer running none idle = grind arith

  fewer-ended : (kept : KeptState n) (later : RegsState n m e) → later.writer ≡ None → attempts_left kept < attempts_left bank.kept → actions_left (ended bank kept) later < actions_left bank regs
  fewer-ended kept later none less =
      let after : BankState n m e = ended bank kept in
      both-fewer (length bank.waiting) (most_steps e) (attempts_left kept) (attempts_left bank.kept) (present_left (item_of regs.change) regs.halted regs.writer bank.running)
      (present_left (item_of later.change) later.halted later.writer after.running) less (idle-left (item_of later.change) later.halted later.writer after.running none refl)

  -- the present line write is the bank's where no change stands
  of-bank : (running : Option (Operation n m e)) → regs.change ≡ None → present_left (item_of regs.change) regs.halted regs.writer running ≡ attempt_left running
  of-bank running none = ap (λ (change : Option Change). present_left (item_of change) regs.halted regs.writer running) none

  fewer-begun : (kept : KeptState n) (op : Operation n m e) → attempts_left kept ≡ attempts_left bank.kept → regs.change ≡ None → bank.running ≡ None → steps_left op.writer ≤ most_steps e
      → actions_left (begun_with kept op bank) regs < actions_left bank regs
  fewer-begun kept op same unchanged none few =
      let before : present_left (item_of regs.change) regs.halted regs.writer bank.running ≡ most_steps e + 1 = of-bank bank.running unchanged ∙ ap (λ (r : Option (Operation n m e)). attempt_left r) none in
      let times : (most_steps e + 2) * (2 * attempts_left kept) ≡ (most_steps e + 2) * (2 * attempts_left bank.kept) = ap (λ count. (most_steps e + 2) * (2 * count)) same in
      plain (length bank.waiting) ((most_steps e + 2) * (2 * attempts_left kept)) ((most_steps e + 2) * (2 * attempts_left bank.kept))
      (present_left (item_of regs.change) regs.halted regs.writer (Some op)) (steps_left op.writer) (present_left (item_of regs.change) regs.halted regs.writer bank.running) (most_steps e) times (of-bank (Some op) unchanged) before few
    where
      plain : (waiting after all now left was most : ℕ) → after ≡ all → now ≡ left → was ≡ most + 1 → left ≤ most → waiting + after + now < waiting + all + was
      plain waiting after all now left was most same present is few = omega (arith, same, present, is, few)

  -- the change's, where one stands
  present-fewer : (now was : ℕ) → now < was → (later : RegsState n m e) → present_left (item_of later.change) later.halted later.writer bank.running ≡ now
      → present_left (item_of regs.change) regs.halted regs.writer bank.running ≡ was → actions_left bank later < actions_left bank regs
  present-fewer now was less later after before =
      plain (length bank.waiting) ((most_steps e + 2) * (2 * attempts_left bank.kept)) (present_left (item_of later.change) later.halted later.writer bank.running)
      (present_left (item_of regs.change) regs.halted regs.writer bank.running) now was less after before
    where
      plain : (waiting all after before now was : ℕ) → now < was → after ≡ now → before ≡ was → waiting + all + after < waiting + all + before
      plain waiting all after before now was less is isnt = omega (arith, less, is, isnt)

  kept-left : (change : Option Change) (halted : Bool) (writer : Option (LineWriter n m e)) → IsTrue (is_some change) → halted ≡ false
      → present_left (item_of change) halted writer bank.running ≡ most_steps e + 2 + keeping_left writer
  kept-left change halted writer some going = grind arith

  halted-left : (change : Option Change) (writer : Option (LineWriter n m e)) → IsTrue (is_some change) → present_left (item_of change) true writer bank.running ≡ 0
  halted-left change writer some = grind arith

pub falling_law : FallingLaw
falling_law n m e bank regs = record {
  after_serve = λ some.
      plain (length (drop 1 bank.waiting)) (length bank.waiting) ((most_steps e + 2) * (2 * attempts_left bank.kept)) (present_left (item_of regs.change) regs.halted regs.writer bank.running)
      (fewer-waiting bank regs bank.waiting some);
  after_begin_of_store = λ under op unchanged none few. fewer-begun bank regs (completed_kept under bank.kept) op (completed-same bank.kept under) unchanged none few;
  after_begin_of_copy = λ op unchanged none few. fewer-begun bank regs bank.kept op refl unchanged none few;
  after_iteration = λ op later unchanged is less.
      fewer (length bank.waiting) ((most_steps e + 2) * (2 * attempts_left bank.kept)) (present_left (item_of regs.change) regs.halted regs.writer (Some later)) (steps_left later.writer)
      (present_left (item_of regs.change) regs.halted regs.writer bank.running) (steps_left op.writer)
      (of-bank bank regs (Some later) unchanged)
      (of-bank bank regs bank.running unchanged ∙ ap (λ (r : Option (Operation n m e)). attempt_left r) is) less;
  after_store = λ later idle stores. fewer-ended bank regs (stored_kept bank.kept) later idle (stored-fewer bank.kept stores);
  after_store_at_once = λ later under idle stores.
      let less : attempts_left (stored_kept (completed_kept under bank.kept)) < attempts_left (completed_kept under bank.kept) =
      stored-fewer (completed_kept under bank.kept) (ap is_store (next_work-completed bank.kept under) ∙ stores) in
      fewer-ended bank regs (stored_kept (completed_kept under bank.kept)) later idle
      (subst (λ (count : ℕ). attempts_left (stored_kept (completed_kept under bank.kept)) < count) (completed-same bank.kept under) less);
  after_copy = λ later idle range copies. fewer-ended bank regs (moved_kept bank.kept) later idle (moved-fewer bank.kept range copies);
  after_retirement = λ later slot idle left. fewer-ended bank regs (retired_kept slot bank.kept) later idle (retired-fewer bank.kept slot left);
  after_exhaustion = λ later idle going. fewer-ended bank regs (exhausted_kept bank.kept) later idle (exhausted-fewer bank.kept going);
  after_keep_begin = λ writer some going idle few.
      present-fewer bank regs (most_steps e + 2 + steps_left writer) (most_steps e + 2 + (most_steps e + 1)) (omega (arith, few)) (kept_on keep.More writer regs)
      (kept-left bank regs regs.change regs.halted (Some writer) some going)
      (kept-left bank regs regs.change regs.halted regs.writer some going ∙ ap (λ (w : Option (LineWriter n m e)). most_steps e + 2 + keeping_left w) idle);
  after_keep_iteration = λ writer later some going is less.
      present-fewer bank regs (most_steps e + 2 + steps_left later) (most_steps e + 2 + steps_left writer) (omega (arith, less)) (kept_on keep.More later regs)
      (kept-left bank regs regs.change regs.halted (Some later) some going)
      (kept-left bank regs regs.change regs.halted regs.writer some going ∙ ap (λ (w : Option (LineWriter n m e)). most_steps e + 2 + keeping_left w) is);
  after_done = λ writer some going none.
      present-fewer bank regs (most_steps e + 1) (most_steps e + 2 + keeping_left regs.writer) (omega arith) (kept_on keep.Done writer regs)
      (ap (λ (r : Option (Operation n m e)). attempt_left r) none) (kept-left bank regs regs.change regs.halted regs.writer some going);
  after_halted = λ writer some going.
      present-fewer bank regs 0 (most_steps e + 2 + keeping_left regs.writer) (omega arith) (kept_on keep.Halted writer regs)
      (halted-left bank regs regs.change None some) (kept-left bank regs regs.change regs.halted regs.writer some going);
}
  where
    plain : (after before all left : ℕ) → after < before → after + all + left < before + all + left
    plain after before all left less = omega (arith, less)

    fewer : (waiting all now after was before : ℕ) → now ≡ after → was ≡ before → after < before → waiting + all + now < waiting + all + was
    fewer waiting all now after was before is same less = omega (arith, is, same, less)

pub one_write_law : OneWriteLaw
one_write_law n m e xs clock array leads stands =
    no_one clock.bank.running
    (leads.holds.running ∙ changed-idle clock.bank.kept.shape clock.pace e xs leads.lawful
    (ap (λ change. is_some change) (sym leads.regs.change) ∙ some_item clock.regs.change stands))
