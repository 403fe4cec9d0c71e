-- Iterations that find their line worn.
use Rattle.std.proofs.Common.{◌≡◌, ◌≢◌, ℕ, ◌+◌, ◌<◌, ◌≤◌, cond, if◌then◌else◌, inl, inr, List, [], ◌∷◌, length, length-append, get_or, refl, Option, Some, Bool, true, false, sym, ap, ◌∙◌, subst, arith}
use Rattle.std.{specs.Prelude.{IfSome, IsTrue}, proofs.lemmas.Bool.{cases_eq, ne_eqb, eq-eqb}}
use Rattle.masked_bytes.specs.{Entries.layer_of, Masked.laid, declared.entry.Entry.Entry}
use Rattle.cell_rows.specs.Device.{ArrayState}
use Rattle.spare_pool.{specs.Table.{Table, line_by, used_by, retired_table}, proofs.Lines.line_by-apart}
use Rattle.line_writer.specs.Writing.{steps_left, most_steps}
use Rattle.bank_shape.specs.{Shape.slots_of, declared.Work.Work, declared.Work.TheVariants.Nothing, declared.waiting.Waiting.Waiting}
use Rattle.power_recovery.specs.{Events.{retired_kept, exhausted_kept}, Kept.{KeptState, IsKept, slot_of, array_line, stands_at, target_slot, due_region, due_work}}
use Rattle.power_recovery.{specs.Slots.bank_lines, proofs.Bundle.{IsKept-exhausted, IsKept-retired}, proofs.Frames.array_line-retired, proofs.Placing.slot_of-within}
use Rattle.bank_model.specs.{Events.BankEvent, History.{Awaited, waits, iterated, retired}}
use Rattle.ecp_line.{specs.ArrayLines.decoded, specs.Reading.{IsSoundLine, IsWornLine}, proofs.Bytes.length-decode}
use Rattle.bank_invariant.specs.{Holds.{Holds, stands_for}, Retiring.{ExhaustedLaw, RetiredLaw}, State.{BankState, Operation, target_of}, Tearing.DiffersAt, Tied.AreSound}
use Rattle.bank_invariant.proofs.Iterating.{under_way-steps, waits-off, served-differs}
use Rattle.bank_invariant.proofs.Targets.{IsTargetOf, laid-whole, decoded-off, stands_for-differs, AreSound-differs, AreUntouched-differs, AreOrderly-differs}
use Rattle.bank_invariant.proofs.Tearing.{running_of, target_of_running, in_progress_of, not_exhausted_of}

-- Exhaustion

pub unmarked : (mark : Bool) (work : Work) → (IsTrue mark → ⊥) → cond mark Nothing work ≡ work
unmarked true work off = absurd (off refl)
unmarked false work off = refl

module _ {n : ℕ} where
  -- the mark leaves the line that what is due would write
  pub marked-target : (kept : KeptState n) (due : Option ℕ) (es : List (Entry n))
      → target_of (exhausted_kept kept) (due_work due (exhausted_kept kept) es) ≡ target_of kept (due_work due kept es)
  marked-target kept due es = grind arith

module _ {n m e : ℕ} where
  -- the line write in progress may be iterated once more
  pub may_iterate : (h : List (BankEvent n)) (bank : BankState n m e) (array : ArrayState n m) (op : Operation n m e)
      → Holds h bank array → bank.running ≡ Some op → iterated h < most_steps e
  may_iterate h bank array op holds is =
      let steps : iterated h + steps_left op.writer ≤ most_steps e =
      subst (λ (r : Option (Operation n m e)). IfSome r (λ op. iterated h + steps_left op.writer ≤ most_steps e)) is holds.steps in
      let left : 0 < steps_left op.writer = under_way-steps op.writer (array.line op.target) (running_of h bank array op holds is).writing in
      omega (arith, steps, left)

  due_target : (h : List (BankEvent n)) (bank : BankState n m e) (array : ArrayState n m) (op : Operation n m e)
      → Holds h bank array → bank.running ≡ Some op
      → op.target ≡ target_of (exhausted_kept bank.kept) (due_work (due_region bank.kept) (exhausted_kept bank.kept) bank.kept.entries)
  due_target h bank array op holds is =
      let run = running_of h bank array op holds is in
      run.target
      ∙ ap (λ work. target_of bank.kept work)
      (run.next ∙ unmarked bank.kept.exhausted (due_work (due_region bank.kept) bank.kept bank.kept.entries) (not_exhausted_of h bank array op holds is))
      ∙ sym (marked-target bank.kept (due_region bank.kept) bank.kept.entries)

  pub retired-count : (h : List (BankEvent n)) (bank : BankState n m e) (array : ArrayState n m) → Holds h bank array
      → (length (retired h) ≡ used_by bank.kept.table) × (bank.kept.table.spares ≡ bank.kept.shape.spares)
  retired-count h bank array holds = (ap (λ (t : Table). used_by t) (sym holds.table), holds.kept.spares)

pub exhausted_law : ExhaustedLaw
exhausted_law n m e h bank old new op holds is differs worn used =
    let at = target_of_running h bank old op holds is in
    let count = retired-count h bank old holds in
    let sound : AreSound e bank.kept new =
    AreSound-differs e bank.kept bank.waiting op.target (target_slot bank.kept op.work) old new holds.kept holds.tied.sound at differs in
    record {
      past = ((in_progress_of h bank old op holds is, omega (arith, count.0, count.1, used), may_iterate h bank old op holds is, λ no. cc), holds.past);
      newest = λ line below. stands_for-differs e bank.kept bank.waiting op.target (target_slot bank.kept op.work) line old new holds.kept holds.tied.sound at differs below ∙ holds.newest line below;
      waiting = holds.waiting;
      few_waiting = holds.few_waiting;
      served = served-differs h bank old new op holds is differs;
      running = refl;
      steps = tt;
      rounds = tt;
      tied = record {
        lines = omega (arith, holds.tied.lines, differs.lines);
        sound = record { apart = sound.apart; slots = sound.slots; spares = sound.spares; worn = sound.worn };
        unused = AreUntouched-differs e op.target _ _ old new differs holds.tied.unused;
        orderly = AreOrderly-differs e op.target _ _ old new differs holds.tied.orderly;
        operation = tt;
        exhausted = λ mark. record {
          all_used = used ∙ count.1;
          idle = refl;
          worn = subst (λ (line : ℕ). IsWornLine e (new.line line)) (due_target h bank old op holds is) worn;
        };
      };
      regions = holds.regions;
      due_last = holds.due_last;
      entries = holds.entries;
      table = holds.table;
      exhausted = refl;
      rows = holds.rows;
      kept = IsKept-exhausted bank.kept holds.kept used;
    }

-- Retirement

module _ {n : ℕ} where
  -- the retired slot has the next spare line, and another has the line that it had
  retired-own : (kept : KeptState n) (slot : ℕ) → array_line (retired_kept slot kept) slot ≡ kept.shape.base + (kept.table.slots + used_by kept.table)
  retired-own kept slot =
      array_line-retired kept slot slot
      ∙ ap (λ b. if b then kept.shape.base + (kept.table.slots + used_by kept.table) else array_line kept slot) (eq-eqb slot slot refl)

  retired-other : (kept : KeptState n) (slot other : ℕ) → other ≢ slot → array_line (retired_kept slot kept) other ≡ array_line kept other
  retired-other kept slot other off =
      array_line-retired kept slot other
      ∙ ap (λ b. if b then kept.shape.base + (kept.table.slots + used_by kept.table) else array_line kept other) (ne_eqb slot other (λ same. off (sym same)))

  -- no two slots have one array line
  pub array_line-apart : (kept : KeptState n) (slot other : ℕ) → IsKept kept → slot < slots_of kept.shape → other < slots_of kept.shape
      → array_line kept slot ≡ array_line kept other → slot ≡ other
  array_line-apart kept slot other range below there same =
      sym (line_by-apart kept.table slot other (omega (arith, below, range.slots)) (omega (arith, there, range.slots)) (omega (arith, same)))

module _ {n m : ℕ} where
  -- the slots and spares of an array whose retired line is worn
  retired-worn : (e : ℕ) (kept : KeptState n) (slot line : ℕ) (array : ArrayState n m) → IsKept kept → AreSound e kept array
      → IsWornLine e (array.line (array_line kept slot)) → slot < slots_of kept.shape
      → line < slots_of kept.shape + used_by (retired_table kept.table slot)
      → ((other : ℕ) → other < slots_of kept.shape → line_by (retired_table kept.table slot) other ≢ line)
      → IsWornLine e (array.line (kept.shape.base + line))
  retired-worn e kept slot line array range sound worn exists below unowned =
      elim (cases_eq line (line_by kept.table slot)) [
        | inl own ↦ subst (λ (l : ℕ). IsWornLine e (array.line (kept.shape.base + l))) (sym own) worn
        | inr off ↦
            let fresh : line ≢ slots_of kept.shape + used_by kept.table =
            λ same. unowned slot exists (omega (arith, retired-own kept slot, same, range.slots)) in
            let unowned_before : (other : ℕ) → other < slots_of kept.shape → line_by kept.table other ≢ line =
            λ other there. elim (cases_eq other slot) [
              | inl same ↦ (λ is. off (sym is ∙ ap (λ s. line_by kept.table s) same))
              | inr apart ↦ (λ is. unowned other there (omega (arith, retired-other kept slot other apart, is)))
            ] in
            sound.worn line (omega (arith, below, fresh, length-append kept.table.replaced (slot ∷ []))) unowned_before
      ]

  retired-slots : (e : ℕ) (kept : KeptState n) (slot at : ℕ) (array : ArrayState n m) → IsKept kept → AreSound e kept array
      → used_by kept.table < kept.table.spares → at < slots_of kept.shape → IsSoundLine e (array.line (array_line (retired_kept slot kept) at))
  retired-slots e kept slot at array range sound left below =
      elim (cases_eq at slot) [
        | inl same ↦
            let spare = sound.spares (used_by kept.table) (omega arith) (omega (arith, left, range.spares)) in
            let place : kept.shape.base + slots_of kept.shape + used_by kept.table ≡ array_line (retired_kept slot kept) at =
            omega (arith, retired-own kept slot, range.slots, ap (λ s. array_line (retired_kept slot kept) s) same) in
            subst (λ (line : ℕ). IsSoundLine e (array.line line)) place spare.0
        | inr off ↦ subst (λ (line : ℕ). IsSoundLine e (array.line line)) (sym (retired-other kept slot at off)) (sound.slots at below)
      ]

  pub AreSound-retired : (e : ℕ) (kept : KeptState n) (slot : ℕ) (array : ArrayState n m) → IsKept kept → AreSound e kept array
      → IsWornLine e (array.line (array_line kept slot)) → slot < slots_of kept.shape → used_by kept.table < kept.table.spares
      → AreSound e (retired_kept slot kept) array
  AreSound-retired e kept slot array range sound worn exists left = record {
    apart = λ at other below there same. array_line-apart (retired_kept slot kept) at other (IsKept-retired kept slot range exists left) below there same;
    slots = λ at below. retired-slots e kept slot at array range sound left below;
    spares = λ spare free there. sound.spares spare (omega (arith, free, length-append kept.table.replaced (slot ∷ []))) there;
    worn = λ line below unowned. retired-worn e kept slot line array range sound worn exists below unowned;
  }

  -- each bank line is shown as before
  stands_for-retired : (e : ℕ) (kept : KeptState n) (waiting : List (Waiting n)) (target slot line : ℕ) (old new : ArrayState n m)
      → IsKept kept → AreSound e kept old → IsTargetOf kept waiting target slot → DiffersAt e target old new → line < bank_lines kept.shape
      → stands_for e (retired_kept slot kept) new line ≡ stands_for e kept old line
  stands_for-retired e kept waiting target slot line old new range sound is differs below =
      elim (cases_eq (slot_of kept line) slot) [
        | inl same ↦
            laid-whole kept.entries line (decoded e new (stands_at (retired_kept slot kept) line)) (decoded e old (stands_at kept line)) range.masked
            (length-decode e (new.line (stands_at (retired_kept slot kept) line)).held) (length-decode e (old.line (stands_at kept line)).held) (is.whole line below same)
        | inr off ↦
            ap (λ under. laid (layer_of kept.entries line).bytes (layer_of kept.entries line).given under)
            (ap (λ at. decoded e new at) (retired-other kept slot (slot_of kept line) off)
            ∙ decoded-off e kept waiting target slot (slot_of kept line) old new sound is differs (slot_of-within kept range line below) off)
      ]

pub retired_law : RetiredLaw
retired_law n m e line h bank old new op holds is differs worn left may =
    let at = target_of_running h bank old op holds is in
    let slot : ℕ = target_slot bank.kept op.work in
    let sound : AreSound e bank.kept new =
    AreSound-differs e bank.kept bank.waiting op.target (target_slot bank.kept op.work) old new holds.kept holds.tied.sound at differs in
    record {
      past = (may, holds.past);
      newest = λ line below. stands_for-retired e bank.kept bank.waiting op.target (target_slot bank.kept op.work) line old new holds.kept holds.tied.sound at differs below ∙ holds.newest line below;
      waiting = holds.waiting;
      few_waiting = holds.few_waiting;
      served = λ k d few.
          let w : Awaited = get_or (waits bank.kept.shape h) k d in
          let off = waits-off h bank old op holds is k d few in
          ap (λ place. laid w.kept w.given (decoded e new place)) (retired-other bank.kept (target_slot bank.kept op.work) (slot_of bank.kept w.line) off.1)
          ∙ served-differs h bank old new op holds is differs k d few;
      running = refl;
      steps = tt;
      rounds = tt;
      tied = record {
        lines = omega (arith, holds.tied.lines, differs.lines);
        sound = AreSound-retired e bank.kept (target_slot bank.kept op.work) new holds.kept sound
            (subst (λ (line : ℕ). IsWornLine e (new.line line)) at.place worn) at.exists left;
        unused = AreUntouched-differs e op.target _ _ old new differs holds.tied.unused;
        orderly = AreOrderly-differs e op.target _ _ old new differs holds.tied.orderly;
        operation = tt;
        exhausted = λ mark. absurd (not_exhausted_of h bank old op holds is mark);
      };
      regions = holds.regions;
      due_last = holds.due_last;
      entries = holds.entries;
      table = ap (λ (t : Table). retired_table t (target_slot bank.kept op.work)) holds.table;
      exhausted = holds.exhausted;
      rows = holds.rows;
      kept = IsKept-retired bank.kept (target_slot bank.kept op.work) holds.kept at.exists left;
    }
