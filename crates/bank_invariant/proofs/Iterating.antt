-- An iteration that goes on, and what every iteration leaves.
use Rattle.std.proofs.Common.{◌≡◌, ◌≢◌, ℕ, ◌+◌, ◌-◌, ◌<◌, ◌≤◌, ◌==◌, inl, inr, List, [], ◌∷◌, map, get_or, refl, Option, Some, false, sym, ap, ◌∙◌, subst, arith}
use Rattle.std.{specs.Prelude.{IfSome, All}, proofs.Math.ListN.get_or-map, proofs.lemmas.Bool.{both_ways, cases_eq, ne_eqb, false_from_ne_true}, proofs.lemmas.List.length-map}
use Rattle.std.proofs.lemmas.List.Elements.{All-push, All-drop}
use Rattle.masked_bytes.specs.Masked.{laid}
use Rattle.cell_rows.specs.Device.{ArrayState, LineState}
use Rattle.start_gap.specs.Rotation.{Rotation, IsRotation, below_gap, move_by}
use Rattle.line_writer.specs.{Orderly.{IsLive, IsOrderly}, Writing.{IsProgress, steps_left, most_steps}, declared.writer.LineWriter.LineWriter, declared.writer.Progress.Progress}
use Rattle.line_writer.proofs.Orderly.{plain}
use Rattle.bank_shape.specs.{Shape.slot_at, declared.BankShape.BankShape, declared.Work.Work, declared.Work.TheVariants.Copy, declared.waiting.Waiting.Waiting}
use Rattle.bank_shape.proofs.Sizes.{slot_at-within}
use Rattle.bank_shape.specs.declared.answer.ReadAnswer.TheVariants as came
use Rattle.power_recovery.specs.{Kept.{KeptState, IsKept, region_at, slot_of, array_line, stands_at, target_slot, due_region, next_work}, Slots.bank_lines}
use Rattle.power_recovery.proofs.{Bundle.due_region-Some, Placing.{slot_of-within, slot_at-place}}
use Rattle.bank_model.specs.{Answers.MayAll, Events.{BankEvent, Read, Serve, Cut}, History.{Awaited, waits, iterated}}
use Rattle.bank_invariant.specs.{Holds.{Holds, waiting_of}, Iterating.{IteratedLaw, IsLater}, State.{BankState, Operation, target_of}, Tearing.DiffersAt}
use Rattle.bank_invariant.specs.Tied.{AreSound, IsOf, IsRunning, IsUnderWay}
use Rattle.bank_invariant.proofs.Targets.{target-orderly, next_copy-region, decoded-other, decoded-off, stands_for-differs, AreSound-differs, AreUntouched-differs}
use Rattle.bank_invariant.proofs.{Targets.AreOrderly-differs, Tearing.{running_of, target_of_running, in_progress_of, not_exhausted_of}}
use Rattle.ecp_line.specs.ArrayLines.{decoded}

-- each read that waits is of a line of the bank
pub waits-known : {n : ℕ} (shape : BankShape) (most : ℕ) (h : List (BankEvent n)) → MayAll shape most h
    → All (λ (w : Awaited). w.line < bank_lines shape) (waits shape h)
waits-known shape most [] may = λ k d few. let none : ⊥ = omega (arith, few) in absurd none
waits-known shape most (Read row line came.Waiting ∷ h) may =
    All-push (λ (w : Awaited). w.line < bank_lines shape) (waits shape h) _ (waits-known shape most h may.1) may.0.0
waits-known shape most (Serve answer ∷ h) may =
    All-drop (λ (w : Awaited). w.line < bank_lines shape) 1 (waits shape h) (waits-known shape most h may.1)
waits-known shape most (Cut tearing ∷ h) may = λ k d few. let none : ⊥ = omega (arith, few) in absurd none
waits-known shape most (_ ∷ h) may = waits-known shape most h may.1

-- a line write with a step left has a greatest number of them that isn't 0
pub under_way-steps : {n m e : ℕ} (writer : LineWriter n m e) (line : LineState n m) → IsUnderWay writer line → 0 < steps_left writer
under_way-steps writer line under =
    let going = subst (λ (p : Progress). IsProgress writer line p) under.more under.writes.answer in
    omega (arith, going.rounds)

-- a gap move copies another place than the gap
from-off_gap : (r : Rotation) → IsRotation r → (move_by r).from ≢ r.gap
from-off_gap r range same =
    elim (cases_eq r.gap 0) [
      | inl end ↦ let at : below_gap r.lines r.gap ≡ r.lines = rw end refl in omega (arith, at, same, end, range.some_lines)
      | inr further ↦
          let test : (r.gap == 0) ≡ false = ne_eqb r.gap 0 further in
          let at : below_gap r.lines r.gap ≡ r.gap - 1 = rw test refl in
          omega (arith, at, same, further)
    ]

pub from-within : (r : Rotation) → IsRotation r → (move_by r).from ≤ r.lines
from-within r range =
    elim (cases_eq r.gap 0) [
      | inl end ↦ let at : below_gap r.lines r.gap ≡ r.lines = rw end refl in omega (arith, at)
      | inr further ↦
          let test : (r.gap == 0) ≡ false = ne_eqb r.gap 0 further in
          let at : below_gap r.lines r.gap ≡ r.gap - 1 = rw test refl in
          omega (arith, at, range.gap_within)
    ]

module _ {n m : ℕ} where
  -- the bytes of the line write in progress stay those of its work
  pub IsOf-differs : (e : ℕ) (kept : KeptState n) (waiting : List (Waiting n)) (bytes : List ℕ) (work : Work) (old new : ArrayState n m)
      → IsKept kept → AreSound e kept old → work ≡ next_work kept → DiffersAt e (target_of kept work) old new
      → IsOf e kept old waiting bytes work → IsOf e kept new waiting bytes work
  IsOf-differs e kept waiting bytes (Copy region step) old new range sound next differs of =
      let moves = next_copy-region kept region step kept.exhausted (due_region kept) kept.entries next in
      let due = due_region-Some kept region range moves.0 in
      let own = range.regions region due.0 in
      let r : Rotation = (region_at kept region).rotation in
      let to : step.to ≡ r.gap = ap (λ s. s.to) moves.1 in
      let from : step.from ≡ (move_by r).from = ap (λ s. s.from) moves.1 in
      let to_within : step.to ≤ kept.shape.lines = omega (arith, to, own.rotates, own.in_range.rotates.gap_within) in
      let from_within : step.from ≤ kept.shape.lines = omega (arith, from, own.rotates, from-within r own.in_range.rotates) in
      let apart : slot_at kept.shape region step.from ≢ slot_at kept.shape region step.to =
      λ same. from-off_gap r own.in_range.rotates (sym from ∙ slot_at-place kept.shape region step.from region step.to from_within to_within same ∙ to) in
      of ∙ sym (decoded-other e (array_line kept (slot_at kept.shape region step.to)) (array_line kept (slot_at kept.shape region step.from)) old new differs
      (λ same. apart (sound.apart (slot_at kept.shape region step.from) (slot_at kept.shape region step.to)
      (slot_at-within kept.shape region step.from due.0 from_within) (slot_at-within kept.shape region step.to due.0 to_within) same)))
  IsOf-differs e kept waiting bytes _ old new range sound next differs of = of

module _ {n m e : ℕ} where
  -- each read that waits is of a line that stands in another slot
  pub waits-off : (h : List (BankEvent n)) (bank : BankState n m e) (old : ArrayState n m) (op : Operation n m e)
      → Holds h bank old → bank.running ≡ Some op
      → All (λ (w : Awaited). (w.line < bank_lines bank.kept.shape) × (slot_of bank.kept w.line ≢ target_slot bank.kept op.work)) (waits bank.kept.shape h)
  waits-off h bank old op holds is = λ k d few.
      let at = target_of_running h bank old op holds is in
      let ws : List Awaited = waits bank.kept.shape h in
      let w : Awaited = get_or ws k d in
      let known : w.line < bank_lines bank.kept.shape = waits-known bank.kept.shape (most_steps e) h holds.past k d few in
      let P : Waiting n → Type 0 = λ w. w.line < bank_lines bank.kept.shape → slot_of bank.kept w.line ≢ target_slot bank.kept op.work in
      let all : All P (map waiting_of ws) = subst (λ (xs : List (Waiting n)). All P xs) holds.waiting at.awaited in
      let one : P (get_or (map waiting_of ws) k (waiting_of d)) = all k (waiting_of d) (omega (arith, few, length-map ws (waiting_of {n = n}))) in
      let off : P (waiting_of w) = subst P (get_or-map waiting_of ws k d) one in
      (known, off known)

  -- so it is still owed its bytes
  pub served-differs : (h : List (BankEvent n)) (bank : BankState n m e) (old new : ArrayState n m) (op : Operation n m e)
      → Holds h bank old → bank.running ≡ Some op → DiffersAt e op.target old new
      → All (λ w. laid w.kept w.given (decoded e new (stands_at bank.kept w.line)) ≡ w.newest) (waits bank.kept.shape h)
  served-differs h bank old new op holds is differs = λ k d few.
      let w : Awaited = get_or (waits bank.kept.shape h) k d in
      let at = target_of_running h bank old op holds is in
      let off = waits-off h bank old op holds is k d few in
      ap (λ under. laid w.kept w.given under)
      (decoded-off e bank.kept bank.waiting op.target (target_slot bank.kept op.work) (slot_of bank.kept w.line) old new holds.tied.sound at differs
      (slot_of-within bank.kept holds.kept w.line off.0) off.1)
      ∙ holds.served k d few

  -- the line write in progress, some steps later, is still that of the next work
  pub IsRunning-later : (h : List (BankEvent n)) (bank : BankState n m e) (old new : ArrayState n m) (op after : Operation n m e)
      → Holds h bank old → bank.running ≡ Some op → DiffersAt e op.target old new → IsLater after op → IsUnderWay after.writer (new.line op.target)
      → IsRunning bank.kept new bank.waiting after
  IsRunning-later h bank old new op after holds is differs later under =
      let run = running_of h bank old op holds is in
      let differs_there : DiffersAt e (target_of bank.kept op.work) old new = subst (λ (t : ℕ). DiffersAt e t old new) run.target differs in
      let of : IsOf e bank.kept new bank.waiting op.writer.bytes op.work =
      IsOf-differs e bank.kept bank.waiting op.writer.bytes op.work old new holds.kept holds.tied.sound run.next differs_there run.of in
      record {
        next = later.work ∙ run.next;
        target = later.target ∙ run.target ∙ ap (λ work. target_of bank.kept work) (sym later.work);
        of = subst (λ (work : Work). IsOf e bank.kept new bank.waiting after.writer.bytes work) (sym later.work)
            (subst (λ (bytes : List ℕ). IsOf e bank.kept new bank.waiting bytes op.work) (sym later.bytes) of);
        writing = subst (λ (t : ℕ). IsUnderWay after.writer (new.line t)) (sym later.target) under;
      }

  -- while no cell of the line is stuck, an iteration is one round more of the same programming
  rounds-later : (h : List (BankEvent n)) (bank : BankState n m e) (old new : ArrayState n m) (op after : Operation n m e)
      → Holds h bank old → bank.running ≡ Some op → DiffersAt e op.target old new → IsLater after op → IsUnderWay after.writer (new.line op.target)
      → IsLive (new.line op.target) → iterated h < after.writer.prog.rounds
  rounds-later h bank old new op after holds is differs later under live =
      let run = running_of h bank old op holds is in
      let before : IsLive (old.line op.target) = λ number. false_from_ne_true _ (λ stuck. both_ways _ (live number) (differs.stuck number stuck)) in
      let orderly : IsOrderly old.bounds.misses (old.line op.target) =
      target-orderly bank.kept bank.waiting op.target (target_slot bank.kept op.work) old holds.kept holds.tied.orderly (target_of_running h bank old op holds is) in
      let was = plain op.writer (old.line op.target) run.writing.more run.writing.writes orderly before in
      let now = plain after.writer (new.line op.target) under.more under.writes (differs.orderly orderly) live in
      let made : iterated h ≤ op.writer.prog.rounds =
      subst (λ (r : Option (Operation n m e)). IfSome r (λ op. IsLive (old.line op.target) → iterated h ≤ op.writer.prog.rounds)) is holds.rounds before in
      omega (arith, made, was.left, now.left, was.rounds, now.rounds, later.fewer)

pub iterated_law : IteratedLaw
iterated_law n m e h bank old new op after holds is differs later under =
    let at = target_of_running h bank old op holds is in
    let steps : iterated h + steps_left op.writer ≤ most_steps e =
    subst (λ (r : Option (Operation n m e)). IfSome r (λ op. iterated h + steps_left op.writer ≤ most_steps e)) is holds.steps in
    let left : 0 < steps_left after.writer = under_way-steps after.writer (new.line op.target) under in
    let fewer : steps_left after.writer < steps_left op.writer = later.fewer in
    record {
      past = ((in_progress_of h bank old op holds is, tt, omega (arith, steps, left, fewer), λ more. omega (arith, steps, left, fewer)), holds.past);
      newest = λ line below. stands_for-differs e bank.kept bank.waiting op.target (target_slot bank.kept op.work) line old new holds.kept holds.tied.sound at differs below ∙ holds.newest line below;
      waiting = holds.waiting;
      few_waiting = holds.few_waiting;
      served = served-differs h bank old new op holds is differs;
      running = refl;
      steps = omega (arith, steps, fewer);
      rounds = λ live.
          let made = rounds-later h bank old new op after holds is differs later under (subst (λ (t : ℕ). IsLive (new.line t)) later.target live) in
          omega (arith, made);
      tied = record {
        lines = omega (arith, holds.tied.lines, differs.lines);
        sound = AreSound-differs e bank.kept bank.waiting op.target (target_slot bank.kept op.work) old new holds.kept holds.tied.sound at differs;
        unused = AreUntouched-differs e op.target _ _ old new differs holds.tied.unused;
        orderly = AreOrderly-differs e op.target _ _ old new differs holds.tied.orderly;
        operation = IsRunning-later h bank old new op after holds is differs later under;
        exhausted = λ mark. absurd (not_exhausted_of h bank old op holds is mark);
      };
      regions = holds.regions;
      due_last = holds.due_last;
      entries = holds.entries;
      table = holds.table;
      exhausted = holds.exhausted;
      rows = holds.rows;
      kept = holds.kept;
    }
