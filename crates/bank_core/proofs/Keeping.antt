-- What an iteration keeps: the tie of a bank to its array, and the invariant.
use Rattle.std.proofs.Common.{◌≡◌, ℕ, ◌+◌, ◌<◌, ◌≤◌, cond, Bool, true, false, List, ◌∷◌, nat_lt, refl, Option, Some, None, is_some, sym, ap, ◌∙◌, subst, arith}
use Rattle.std.{specs.Prelude.{IfSome, IsTrue}, proofs.lemmas.Bool.{ltb-true, ltb-false}}
use Rattle.cell_rows.specs.Device.{ArrayState}
use Rattle.spare_pool.specs.Table.{used_by}
use Rattle.line_writer.specs.{Orderly.AreOrderly, Writing.{IsProgress, IsWorn}, declared.writer.Progress.Progress}
use Rattle.line_writer.specs.declared.writer.Progress.TheVariants as progress
use Rattle.ecp_line.specs.{Reading.IsWornLine, Untouched.AreUntouched}
use Rattle.bank_shape.specs.{Shape.{slots_of, lines_in}, declared.Work.Work, declared.Work.TheVariants.{Nothing, Store, Copy}, declared.answer.Step.Step}
use Rattle.bank_shape.specs.declared.waiting.Waiting.{Waiting}
use Rattle.bank_shape.specs.declared.answer.Step.TheVariants as did
use Rattle.power_recovery.specs.{Events.{retired_kept, exhausted_kept}, Kept.{KeptState, IsKept, target_slot, due_region, due_work, next_work}}
use Rattle.bank_model.specs.{After.{work_after, slot_of_work}, Events.{BankEvent, Iterate}}
use Rattle.bank_invariant.specs.{Holds.Holds, Iterating.going_on, Retiring.ended, State.{BankState, Operation, target_of}, Tearing.DiffersAt}
use Rattle.bank_invariant.{specs.Tied.{AreSound, IsOf, IsRunning, IsUnderWay, IsTied}, proofs.Agreeing.agree_law, proofs.Finishing.stored_law}
use Rattle.bank_invariant.proofs.Iterating.{iterated_law, IsOf-differs}
use Rattle.bank_invariant.proofs.Retiring.{exhausted_law, retired_law, may_iterate, retired-count, unmarked, marked-target, AreSound-retired}
use Rattle.bank_invariant.proofs.Targets.{IsTargetOf, running-target, AreSound-differs, AreUntouched-differs, AreOrderly-differs, DiffersAt-round, target-exists}
use Rattle.bank_invariant.proofs.{Tearing.{running_of, in_progress_of}, Turned.moved_law}
use Rattle.bank_core.specs.{Stepping.{done_from, done_kept, step_from, left_by, IsWriterStep, IsIteration}, Steps.is_some_work}

-- a work writes the slot that the history says
slot-agrees : {n : ℕ} (kept : KeptState n) (h : List (BankEvent n)) (work : Work) → target_slot kept work ≡ slot_of_work kept.shape h work
slot-agrees kept h Nothing = refl
slot-agrees kept h (Store line slot) = refl
slot-agrees kept h (Copy region step) = refl

-- a line write in progress is of some work
some_work : {n m : ℕ} (e : ℕ) (kept : KeptState n) (array : ArrayState n m) (waiting : List (Waiting n)) (bytes : List ℕ) (work : Work)
    → IsOf e kept array waiting bytes work → IsTrue (is_some_work work)
some_work e kept array waiting bytes Nothing of = absurd of
some_work e kept array waiting bytes (Store line slot) of = refl
some_work e kept array waiting bytes (Copy region move) of = refl

module _ {n m e : ℕ} where
  -- the line write in progress is that of the next work
  pub tied-running : (bank : BankState n m e) (array : ArrayState n m) (op : Operation n m e)
      → IsTied bank array → bank.running ≡ Some op → IsRunning bank.kept array bank.waiting op
  tied-running bank array op tied is = subst (λ (r : Option (Operation n m e)). IfSome r (IsRunning bank.kept array bank.waiting)) is tied.operation

  -- and writes a slot
  pub tied-target : (bank : BankState n m e) (array : ArrayState n m) (op : Operation n m e)
      → IsKept bank.kept → IsTied bank array → bank.running ≡ Some op → IsTargetOf bank.kept bank.waiting op.target (target_slot bank.kept op.work)
  tied-target bank array op range tied is =
      let run = tied-running bank array op tied is in
      running-target e bank.kept array bank.waiting op.writer.bytes op.work op.target range run.next run.target run.of

  -- which is one of the array
  pub tied-exists : (bank : BankState n m e) (array : ArrayState n m) (op : Operation n m e)
      → IsKept bank.kept → IsTied bank array → bank.running ≡ Some op → op.target < array.lines
  tied-exists bank array op range tied is =
      target-exists bank.kept bank.waiting op.target (target_slot bank.kept op.work) array range tied.lines (tied-target bank array op range tied is)

  tied-going : (bank : BankState n m e) (array : ArrayState n m) (op : Operation n m e)
      → IsTied bank array → bank.running ≡ Some op → IsTrue bank.kept.exhausted → ⊥
  tied-going bank array op tied is mark = let none : None ≡ Some op = sym (tied.exhausted mark).idle ∙ is in cc

  -- a step changes the line of the target alone
  differs_by : (tick : ℕ) (op now : Operation n m e) (before after : ArrayState n m) → IsUnderWay op.writer (before.line op.target)
      → IsWriterStep tick op now before after → DiffersAt e op.target before after
  differs_by tick op now before after under step = DiffersAt-round e op.target tick op.writer step.round.0 before after under step.round.1 step.sound step.unused

  -- The invariant

  holds-more : (tick : ℕ) (h : List (BankEvent n)) (bank : BankState n m e) (op now : Operation n m e) (before after : ArrayState n m)
      → Holds h bank before → bank.running ≡ Some op → IsWriterStep tick op now before after → now.writer.progress ≡ progress.More
      → Holds (Iterate did.More ∷ h) (going_on bank now) after
  holds-more tick h bank op now before after holds is step more =
      iterated_law n m e h bank before after op now holds is (differs_by tick op now before after (running_of h bank before op holds is).writing step)
      (record { work = step.work; target = step.target; bytes = step.bytes; fewer = step.fewer }) (record { more = more; writes = step.writes })

  holds-done : (tick : ℕ) (h : List (BankEvent n)) (bank : BankState n m e) (op now : Operation n m e) (before after : ArrayState n m) (work : Work)
      → Holds h bank before → bank.running ≡ Some op → IsWriterStep tick op now before after → now.writer.progress ≡ progress.Stored
      → op.work ≡ work → work ≡ next_work bank.kept → IsOf e bank.kept before bank.waiting op.writer.bytes work
      → Holds (Iterate (done_from bank.kept work op.target) ∷ h) (ended bank (done_kept bank.kept work)) after
  holds-done tick h bank op now before after Nothing holds is step stored same next of = absurd of
  holds-done tick h bank op now before after (Store line slot) holds is step stored same next of =
      let answer = subst (λ (p : Progress). IsProgress now.writer (after.line op.target) p) stored step.writes.answer in
      stored_law n m e line slot h bank before after op holds is same (differs_by tick op now before after (running_of h bank before op holds is).writing step) (answer.2 ∙ step.bytes)
  holds-done tick h bank op now before after (Copy region move) holds is step stored same next of =
      let answer = subst (λ (p : Progress). IsProgress now.writer (after.line op.target) p) stored step.writes.answer in
      moved_law n m e region move h bank before after op holds is (sym next) (differs_by tick op now before after (running_of h bank before op holds is).writing step) (answer.2 ∙ step.bytes ∙ of)

  holds-worn : (tick : ℕ) (h : List (BankEvent n)) (bank : BankState n m e) (op now : Operation n m e) (before after : ArrayState n m) (left : Bool)
      → Holds h bank before → bank.running ≡ Some op → IsWriterStep tick op now before after → IsWornLine e (after.line op.target)
      → nat_lt (used_by bank.kept.table) bank.kept.shape.spares ≡ left
      → let slot = target_slot bank.kept op.work in
      Holds (Iterate (cond left (did.Retired slot (slots_of bank.kept.shape + used_by bank.kept.table)) did.Exhausted) ∷ h)
      (ended bank (cond left (retired_kept slot bank.kept) (exhausted_kept bank.kept))) after
  holds-worn tick h bank op now before after true holds is step worn left =
      let few : used_by bank.kept.table < bank.kept.shape.spares = ltb-true (used_by bank.kept.table) bank.kept.shape.spares left in
      let count = retired-count h bank before holds in
      let agrees = agree_law n m e h bank before holds in
      let run = running_of h bank before op holds is in
      let slot : target_slot bank.kept op.work ≡ slot_of_work bank.kept.shape h (work_after bank.kept.shape h) =
      slot-agrees bank.kept h op.work ∙ ap (λ work. slot_of_work bank.kept.shape h work) (run.next ∙ agrees.work) in
      retired_law n m e (slots_of bank.kept.shape + used_by bank.kept.table) h bank before after op holds is (differs_by tick op now before after (running_of h bank before op holds is).writing step) worn
      (omega (arith, few, count.1))
      (in_progress_of h bank before op holds is, (slot, omega (arith, count.0), omega (arith, few, count.0)), may_iterate h bank before op holds is, λ more. absurd cc)
  holds-worn tick h bank op now before after false holds is step worn left =
      let none : bank.kept.shape.spares ≤ used_by bank.kept.table = ltb-false (used_by bank.kept.table) bank.kept.shape.spares left in
      let count = retired-count h bank before holds in
      exhausted_law n m e h bank before after op holds is (differs_by tick op now before after (running_of h bank before op holds is).writing step) worn
      (omega (arith, none, count.1, holds.kept.table.within))

  holds-step : (tick : ℕ) (h : List (BankEvent n)) (bank : BankState n m e) (op now : Operation n m e) (before after : ArrayState n m) (far : Progress)
      → Holds h bank before → bank.running ≡ Some op → IsWriterStep tick op now before after → now.writer.progress ≡ far
      → Holds (Iterate (step_from bank.kept op far) ∷ h) (left_by bank op now far) after
  holds-step tick h bank op now before after progress.More holds is step at = holds-more tick h bank op now before after holds is step at
  holds-step tick h bank op now before after progress.Stored holds is step at =
      let run = running_of h bank before op holds is in
      holds-done tick h bank op now before after op.work holds is step at refl run.next run.of
  holds-step tick h bank op now before after (progress.Worn cause) holds is step at =
      holds-worn tick h bank op now before after (nat_lt (used_by bank.kept.table) bank.kept.shape.spares) holds is step
      (step.worn (subst (λ (p : Progress). IsWorn p) (sym at) tt)) refl

  -- an iteration keeps the invariant
  pub iteration-holds : (tick : ℕ) (h : List (BankEvent n)) (old new : BankState n m e) (op : Operation n m e) (answer : Step) (before after : ArrayState n m)
      → Holds h old before → old.running ≡ Some op → IsIteration tick op old new answer before after → Holds (Iterate answer ∷ h) new after
  iteration-holds tick h old new op answer before after holds is by =
      let end = holds-step tick h old op by.now before after by.now.writer.progress holds is by.step refl in
      subst (λ (s : Step). Holds (Iterate s ∷ h) new after) (sym by.is)
      (subst (λ (b : BankState n m e). Holds (Iterate (step_from old.kept op by.now.writer.progress) ∷ h) b after) (sym by.leaves) end)

  -- The tie to the array

  tied-sound : (tick : ℕ) (bank : BankState n m e) (op now : Operation n m e) (before after : ArrayState n m)
      → IsKept bank.kept → IsTied bank before → bank.running ≡ Some op → IsWriterStep tick op now before after → AreSound e bank.kept after
  tied-sound tick bank op now before after range tied is step =
      AreSound-differs e bank.kept bank.waiting op.target (target_slot bank.kept op.work) before after range tied.sound
      (tied-target bank before op range tied is) (differs_by tick op now before after (tied-running bank before op tied is).writing step)

  tied-lines : (tick : ℕ) (bank : BankState n m e) (op now : Operation n m e) (before after : ArrayState n m)
      → IsTied bank before → bank.running ≡ Some op → IsWriterStep tick op now before after → bank.kept.shape.base + lines_in bank.kept.shape ≤ after.lines
  tied-lines tick bank op now before after tied is step = let differs = differs_by tick op now before after (tied-running bank before op tied is).writing step in omega (arith, tied.lines, differs.lines)

  tied-unused : (tick : ℕ) (bank : BankState n m e) (op now : Operation n m e) (before after : ArrayState n m)
      → IsTied bank before → bank.running ≡ Some op → IsWriterStep tick op now before after → AreUntouched e after bank.kept.shape.base (slots_of bank.kept.shape + bank.kept.shape.spares)
  tied-unused tick bank op now before after tied is step =
      AreUntouched-differs e op.target _ _ before after (differs_by tick op now before after (tied-running bank before op tied is).writing step) tied.unused

  tied-orderly : (tick : ℕ) (bank : BankState n m e) (op now : Operation n m e) (before after : ArrayState n m)
      → IsTied bank before → bank.running ≡ Some op → IsWriterStep tick op now before after → AreOrderly after bank.kept.shape.base (slots_of bank.kept.shape + bank.kept.shape.spares)
  tied-orderly tick bank op now before after tied is step =
      AreOrderly-differs e op.target _ _ before after (differs_by tick op now before after (tied-running bank before op tied is).writing step) tied.orderly

  tied-later : (tick : ℕ) (bank : BankState n m e) (op now : Operation n m e) (before after : ArrayState n m)
      → IsKept bank.kept → IsTied bank before → bank.running ≡ Some op → IsWriterStep tick op now before after → now.writer.progress ≡ progress.More
      → IsRunning bank.kept after bank.waiting now
  tied-later tick bank op now before after range tied is step more =
      let run = tied-running bank before op tied is in
      let differs_there : DiffersAt e (target_of bank.kept op.work) before after =
      subst (λ (t : ℕ). DiffersAt e t before after) run.target (differs_by tick op now before after (tied-running bank before op tied is).writing step) in
      let of : IsOf e bank.kept after bank.waiting op.writer.bytes op.work =
      IsOf-differs e bank.kept bank.waiting op.writer.bytes op.work before after range tied.sound run.next differs_there run.of in
      let under : IsUnderWay now.writer (after.line op.target) = record { more = more; writes = step.writes } in
      record {
        next = step.work ∙ run.next;
        target = step.target ∙ run.target ∙ ap (λ work. target_of bank.kept work) (sym step.work);
        of = subst (λ (work : Work). IsOf e bank.kept after bank.waiting now.writer.bytes work) (sym step.work)
            (subst (λ (bytes : List ℕ). IsOf e bank.kept after bank.waiting bytes op.work) (sym step.bytes) of);
        writing = subst (λ (t : ℕ). IsUnderWay now.writer (after.line t)) (sym step.target) under;
      }

  tied-done : (tick : ℕ) (bank : BankState n m e) (op now : Operation n m e) (before after : ArrayState n m) (work : Work)
      → IsKept bank.kept → IsTied bank before → bank.running ≡ Some op → IsWriterStep tick op now before after
      → IsTied (ended bank (done_kept bank.kept work)) after
  tied-done tick bank op now before after Nothing range tied is step = record {
    lines = tied-lines tick bank op now before after tied is step;
    sound = tied-sound tick bank op now before after range tied is step;
    unused = tied-unused tick bank op now before after tied is step;
    orderly = tied-orderly tick bank op now before after tied is step;
    operation = tt;
    exhausted = λ mark. absurd (tied-going bank before op tied is mark);
  }
  tied-done tick bank op now before after (Store line slot) range tied is step =
      let sound = tied-sound tick bank op now before after range tied is step in
      record {
        lines = tied-lines tick bank op now before after tied is step;
        sound = record { apart = sound.apart; slots = sound.slots; spares = sound.spares; worn = sound.worn };
        unused = tied-unused tick bank op now before after tied is step;
        orderly = tied-orderly tick bank op now before after tied is step;
        operation = tt;
        exhausted = λ mark. absurd (tied-going bank before op tied is mark);
      }
  tied-done tick bank op now before after (Copy region move) range tied is step =
      let sound = tied-sound tick bank op now before after range tied is step in
      record {
        lines = tied-lines tick bank op now before after tied is step;
        sound = record { apart = sound.apart; slots = sound.slots; spares = sound.spares; worn = sound.worn };
        unused = tied-unused tick bank op now before after tied is step;
        orderly = tied-orderly tick bank op now before after tied is step;
        operation = tt;
        exhausted = λ mark. absurd (tied-going bank before op tied is mark);
      }

  -- the line of the target is that of what is due
  due-target : (bank : BankState n m e) (array : ArrayState n m) (op : Operation n m e) → IsTied bank array → bank.running ≡ Some op
      → op.target ≡ target_of (exhausted_kept bank.kept) (due_work (due_region bank.kept) (exhausted_kept bank.kept) bank.kept.entries)
  due-target bank array op tied is =
      let run = tied-running bank array op tied is in
      run.target
      ∙ ap (λ work. target_of bank.kept work)
      (run.next ∙ unmarked bank.kept.exhausted (due_work (due_region bank.kept) bank.kept bank.kept.entries) (tied-going bank array op tied is))
      ∙ sym (marked-target bank.kept (due_region bank.kept) bank.kept.entries)

  tied-worn : (tick : ℕ) (bank : BankState n m e) (op now : Operation n m e) (before after : ArrayState n m) (left : Bool)
      → IsKept bank.kept → IsTied bank before → bank.running ≡ Some op → IsWriterStep tick op now before after → IsWornLine e (after.line op.target)
      → nat_lt (used_by bank.kept.table) bank.kept.shape.spares ≡ left
      → IsTied (ended bank (cond left (retired_kept (target_slot bank.kept op.work) bank.kept) (exhausted_kept bank.kept))) after
  tied-worn tick bank op now before after true range tied is step worn left =
      let at = tied-target bank before op range tied is in
      let few : used_by bank.kept.table < bank.kept.shape.spares = ltb-true (used_by bank.kept.table) bank.kept.shape.spares left in
      record {
        lines = tied-lines tick bank op now before after tied is step;
        sound = AreSound-retired e bank.kept (target_slot bank.kept op.work) after range (tied-sound tick bank op now before after range tied is step)
            (subst (λ (line : ℕ). IsWornLine e (after.line line)) at.place worn) at.exists (omega (arith, few, range.spares));
        unused = tied-unused tick bank op now before after tied is step;
        orderly = tied-orderly tick bank op now before after tied is step;
        operation = tt;
        exhausted = λ mark. absurd (tied-going bank before op tied is mark);
      }
  tied-worn tick bank op now before after false range tied is step worn left =
      let none : bank.kept.shape.spares ≤ used_by bank.kept.table = ltb-false (used_by bank.kept.table) bank.kept.shape.spares left in
      let sound = tied-sound tick bank op now before after range tied is step in
      record {
        lines = tied-lines tick bank op now before after tied is step;
        sound = record { apart = sound.apart; slots = sound.slots; spares = sound.spares; worn = sound.worn };
        unused = tied-unused tick bank op now before after tied is step;
        orderly = tied-orderly tick bank op now before after tied is step;
        operation = tt;
        exhausted = λ mark. record {
          all_used = omega (arith, none, range.spares, range.table.within);
          idle = refl;
          worn = subst (λ (line : ℕ). IsWornLine e (after.line line)) (due-target bank before op tied is) worn;
        };
      }

  tied-step : (tick : ℕ) (bank : BankState n m e) (op now : Operation n m e) (before after : ArrayState n m) (far : Progress)
      → IsKept bank.kept → IsTied bank before → bank.running ≡ Some op → IsWriterStep tick op now before after → now.writer.progress ≡ far
      → IsTied (left_by bank op now far) after
  tied-step tick bank op now before after progress.More range tied is step at = record {
    lines = tied-lines tick bank op now before after tied is step;
    sound = tied-sound tick bank op now before after range tied is step;
    unused = tied-unused tick bank op now before after tied is step;
    orderly = tied-orderly tick bank op now before after tied is step;
    operation = tied-later tick bank op now before after range tied is step at;
    exhausted = λ mark. absurd (tied-going bank before op tied is mark);
  }
  tied-step tick bank op now before after progress.Stored range tied is step at = tied-done tick bank op now before after op.work range tied is step
  tied-step tick bank op now before after (progress.Worn cause) range tied is step at =
      tied-worn tick bank op now before after (nat_lt (used_by bank.kept.table) bank.kept.shape.spares) range tied is step
      (step.worn (subst (λ (p : Progress). IsWorn p) (sym at) tt)) refl

  -- an iteration keeps the tie
  pub iteration-tied : (tick : ℕ) (old new : BankState n m e) (op : Operation n m e) (answer : Step) (before after : ArrayState n m)
      → IsKept old.kept → IsTied old before → old.running ≡ Some op → IsIteration tick op old new answer before after → IsTied new after
  iteration-tied tick old new op answer before after range tied is by =
      subst (λ (b : BankState n m e). IsTied b after) (sym by.leaves)
      (tied-step tick old op by.now before after by.now.writer.progress range tied is by.step refl)

  -- What a bank with a line write in progress gives

  -- some line write is in progress
  pub some_running : (r : Option (Operation n m e)) → IsTrue (is_some r) → (op : Operation n m e) × (r ≡ Some op)
  some_running None some = cc
  some_running (Some op) some = (op, refl)

  pub record IsReady (kept : KeptState n) (op : Operation n m e) (array : ArrayState n m) : Type 0 where
    pub exists : op.target < array.lines
    pub writing : IsUnderWay op.writer (array.line op.target)
    pub next : op.work ≡ next_work kept
    pub some : IsTrue (is_some_work op.work)
    pub slot : target_slot kept op.work < slots_of kept.shape

  pub ready : (bank view : BankState n m e) (array : ArrayState n m) (op : Operation n m e)
      → bank ≡ view → IsKept view.kept → IsTied bank array → view.running ≡ Some op → IsReady view.kept op array
  ready bank view array op same range tied is =
      let there : IsTied view array = subst (λ (b : BankState n m e). IsTied b array) same tied in
      let run = tied-running view array op there is in
      let at = tied-target view array op range there is in
      record {
        exists = tied-exists view array op range there is;
        writing = run.writing;
        next = run.next;
        some = some_work e view.kept array view.waiting op.writer.bytes op.work run.of;
        slot = at.exists;
      }

  pub stepped-tied : (tick : ℕ) (old new : BankState n m e) (answer : Step) (before after : ArrayState n m)
      → IsKept old.kept → IsTrue (is_some old.running) → IsTied old before
      → IfSome old.running (λ op. IsIteration tick op old new answer before after) → IsTied new after
  stepped-tied tick old new answer before after range runs tied step =
      let some = some_running old.running runs in
      iteration-tied tick old new some.0 answer before after range tied some.1
      (subst (λ (r : Option (Operation n m e)). IfSome r (λ op. IsIteration tick op old new answer before after)) some.1 step)

  pub stepped-holds : (tick : ℕ) (old new : BankState n m e) (answer : Step) (before after : ArrayState n m)
      → IsTrue (is_some old.running) → IfSome old.running (λ op. IsIteration tick op old new answer before after)
      → (h : List (BankEvent n)) → Holds h old before → Holds (Iterate answer ∷ h) new after
  stepped-holds tick old new answer before after runs step h holds =
      let some = some_running old.running runs in
      iteration-holds tick h old new some.0 answer before after holds some.1
      (subst (λ (r : Option (Operation n m e)). IfSome r (λ op. IsIteration tick op old new answer before after)) some.1 step)

  -- what the line write in progress is for is the next work
  pub stepped-work : (bank : BankState n m e) (array : ArrayState n m) (work : Work) → IsTrue (is_some bank.running) → IsTied bank array
      → IfSome bank.running (λ op. work ≡ op.work) → work ≡ next_work bank.kept
  stepped-work bank array work runs tied is =
      let some = some_running bank.running runs in
      subst (λ (r : Option (Operation n m e)). IfSome r (λ op. work ≡ op.work)) some.1 is ∙ (tied-running bank array some.0 tied some.1).next
