-- A cut that tears the line write in progress.
use Rattle.std.proofs.Common.{◌≡◌, ℕ, List, refl, Option, Some, None, true, sym, ap, ◌∙◌, subst, arith, is_some}
use Rattle.std.specs.Prelude.{IfSome, IsTrue}
use Rattle.cell_rows.specs.Device.{ArrayState}
use Rattle.power_recovery.specs.Kept.{target_slot}
use Rattle.bank_model.specs.{Events.BankEvent, History.in_progress}
use Rattle.bank_invariant.specs.{Holds.Holds, State.{BankState, Operation}, Tearing.TornLaw, Tied.IsRunning}
use Rattle.bank_invariant.proofs.Targets.{IsTargetOf, running-target, stands_for-differs, AreSound-differs, AreUntouched-differs, AreOrderly-differs}

module _ {n m e : ℕ} where
  -- the line write in progress is that of the next work
  pub running_of : (h : List (BankEvent n)) (bank : BankState n m e) (array : ArrayState n m) (op : Operation n m e)
      → Holds h bank array → bank.running ≡ Some op → IsRunning bank.kept array bank.waiting op
  running_of h bank array op holds is = subst (λ (r : Option (Operation n m e)). IfSome r (IsRunning bank.kept array bank.waiting)) is holds.tied.operation

  -- and writes a slot
  pub target_of_running : (h : List (BankEvent n)) (bank : BankState n m e) (array : ArrayState n m) (op : Operation n m e)
      → Holds h bank array → bank.running ≡ Some op → IsTargetOf bank.kept bank.waiting op.target (target_slot bank.kept op.work)
  target_of_running h bank array op holds is =
      let run = running_of h bank array op holds is in
      running-target e bank.kept array bank.waiting op.writer.bytes op.work op.target holds.kept run.next run.target run.of

  -- the history says that a line write is in progress
  pub in_progress_of : (h : List (BankEvent n)) (bank : BankState n m e) (array : ArrayState n m) (op : Operation n m e)
      → Holds h bank array → bank.running ≡ Some op → in_progress h ≡ true
  in_progress_of h bank array op holds is = sym holds.running ∙ ap (λ (r : Option (Operation n m e)). is_some r) is

  -- and the bank is not exhausted
  pub not_exhausted_of : (h : List (BankEvent n)) (bank : BankState n m e) (array : ArrayState n m) (op : Operation n m e)
      → Holds h bank array → bank.running ≡ Some op → IsTrue bank.kept.exhausted → ⊥
  not_exhausted_of h bank array op holds is mark = let none : None ≡ Some op = sym (holds.tied.exhausted mark).idle ∙ is in cc

pub torn_law : TornLaw
torn_law n m e h bank old new op holds is differs =
    let at = target_of_running h bank old op holds is in
    record {
      past = (in_progress_of h bank old op holds is, holds.past);
      newest = λ line below. stands_for-differs e bank.kept bank.waiting op.target (target_slot bank.kept op.work) line old new holds.kept holds.tied.sound at differs below ∙ holds.newest line below;
      waiting = refl;
      few_waiting = omega arith;
      served = λ k d few. let none : ⊥ = omega (arith, few) in absurd none;
      running = refl;
      steps = tt;
      rounds = tt;
      tied = record {
        lines = omega (arith, holds.tied.lines, differs.lines);
        sound = AreSound-differs e bank.kept bank.waiting op.target (target_slot bank.kept op.work) old new holds.kept holds.tied.sound at differs;
        unused = AreUntouched-differs e op.target _ _ old new differs holds.tied.unused;
        orderly = AreOrderly-differs e op.target _ _ old new differs holds.tied.orderly;
        operation = tt;
        exhausted = λ mark. absurd (not_exhausted_of h bank old op holds is mark);
      };
      regions = holds.regions;
      due_last = holds.due_last;
      entries = holds.entries;
      table = holds.table;
      exhausted = holds.exhausted;
      rows = holds.rows;
      kept = holds.kept;
    }
