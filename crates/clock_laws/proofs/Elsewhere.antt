-- What a history is to a bank depends on the array's lines that are the bank's own, and on how many lines there are.
use Rattle.std.proofs.Common.{◌≡◌, ℕ, ◌+◌, ◌<◌, ◌≤◌, List, get_or, Option, Some, None, sym, ap, subst, ◌∙◌, arith}
use Rattle.std.specs.Prelude.{IfSome}
use Rattle.masked_bytes.specs.{Entries.{Layer, layer_of}, Masked.laid}
use Rattle.cell_rows.specs.Device.{ArrayState, LineState}
use Rattle.ecp_line.specs.{ArrayLines.decoded, Reading.{decode, IsSoundLine, IsWornLine}}
use Rattle.line_writer.{specs.Orderly.IsLive, proofs.Orderly.AreOrderly-same, proofs.Untouched.AreUntouched-same}
use Rattle.bank_shape.specs.{Shape.{slots_of, slot_at, control_line}, declared.Work.Work, declared.Work.TheVariants.Copy, declared.waiting.Waiting.Waiting}
use Rattle.power_recovery.specs.{Kept.{KeptState, IsKept, array_line, stands_at, due_region, due_work}, Slots.bank_lines}
use Rattle.bank_model.specs.{Events.BankEvent, History.{Awaited, waits, iterated}, Timing.core}
use Rattle.bank_invariant.specs.{Holds.Holds, State.{BankState, Operation, target_of}, Tied.{IsUnderWay, IsOf, IsRunning, AreSound, AreTied}}
use Rattle.bank_invariant.proofs.Awaiting.{waits-known}
use Rattle.clock_laws.{specs.Extending.ElsewhereLaw, proofs.Controls.{change-known, control-elsewhere}}
use Rattle.clock_laws.proofs.{Ranges.{control-in, IsSlotOrSpare, array_line-in, stands_at-in, target-in, due-in, source-within, HasSource}, Wearing.has-aged-same}

module _ {n m : ℕ} (e : ℕ) (kept : KeptState n) (range : IsKept kept) (old new : ArrayState n m) (many : new.lines ≡ old.lines) (bounds : new.bounds ≡ old.bounds)
    (same : (line : ℕ) → IsSlotOrSpare kept.shape line → new.line line ≡ old.line line) where
  pub decoded-same : (line : ℕ) → IsSlotOrSpare kept.shape line → decoded e new line ≡ decoded e old line
  decoded-same line is = ap (λ (l : LineState n m). decode e l.held) (same line is)

  of-same : (waiting : List (Waiting n)) (bytes : List ℕ) (work : Work) → HasSource kept range work → IsOf e kept old waiting bytes work → IsOf e kept new waiting bytes work
  of-same waiting bytes (Copy region step) has own =
      own ∙ sym (decoded-same (array_line kept (slot_at kept.shape region step.from)) (array_line-in kept range (slot_at kept.shape region step.from) has))
  of-same waiting bytes _ has own = own

  op-in : (op : Operation n m e) (waiting : List (Waiting n)) → IsRunning kept old waiting op → IsSlotOrSpare kept.shape op.target
  op-in op waiting own = subst (λ (line : ℕ). IsSlotOrSpare kept.shape line) (sym (own.target ∙ ap (λ work. target_of kept work) own.next)) (target-in kept range)

  running-same : (running : Option (Operation n m e)) (waiting : List (Waiting n)) → IfSome running (IsRunning kept old waiting) → IfSome running (IsRunning kept new waiting)
  running-same None waiting own = tt
  running-same (Some op) waiting own =
      let at : IsSlotOrSpare kept.shape op.target = op-in op waiting own in
      record {
        next = own.next;
        target = own.target;
        of = of-same waiting op.writer.bytes op.work (subst (λ (work : Work). HasSource kept range work) (sym own.next) (source-within kept range)) own.of;
        writing = subst (λ (l : LineState n m). IsUnderWay op.writer l) (sym (same op.target at)) own.writing;
      }

  rounds-same : (count : ℕ) (running : Option (Operation n m e)) (waiting : List (Waiting n)) → IfSome running (IsRunning kept old waiting)
      → IfSome running (λ op. IsLive (old.line op.target) → count ≤ op.writer.prog.rounds) → IfSome running (λ op. IsLive (new.line op.target) → count ≤ op.writer.prog.rounds)
  rounds-same count None waiting own made = tt
  rounds-same count (Some op) waiting own made = λ live. made (subst (λ (l : LineState n m). IsLive l) (same op.target (op-in op waiting own)) live)

  sound-same : AreSound e kept old → AreSound e kept new
  sound-same own = record {
    apart = own.apart;
    slots = λ slot below.
        subst (λ (l : LineState n m). IsSoundLine e l) (sym (same (array_line kept slot) (array_line-in kept range slot below))) (own.slots slot below);
    spares = λ spare free below.
        subst (λ (l : LineState n m). IsSoundLine e l × (l.pulses ≡ 0)) (sym (same (kept.shape.base + slots_of kept.shape + spare) (omega arith, omega arith)))
        (own.spares spare free below);
    worn = λ line below none.
        subst (λ (l : LineState n m). IsWornLine e l) (sym (same (kept.shape.base + line) (omega arith, omega (arith, below, range.spares, range.table.within))))
        (own.worn line below none);
  }

  pub tied-same : (running : Option (Operation n m e)) (waiting : List (Waiting n)) → AreTied kept running waiting old → AreTied kept running waiting new
  tied-same running waiting tied = record {
    lines = omega (arith, tied.lines, many);
    sound = sound-same tied.sound;
    unused = AreUntouched-same e old new _ _ (λ line below. same (kept.shape.base + line) (omega arith, omega (arith, below))) tied.unused;
    orderly = AreOrderly-same old new _ _ bounds (λ line below. same (kept.shape.base + line) (omega arith, omega (arith, below))) tied.orderly;
    operation = running-same running waiting tied.operation;
    exhausted = λ mark.
        let own = tied.exhausted mark in
        record {
          all_used = own.all_used;
          idle = own.idle;
          worn = subst (λ (l : LineState n m). IsWornLine e l) (sym (same (target_of kept (due_work (due_region kept) kept kept.entries)) (due-in kept range))) own.worn;
        };
  }

pub holds-same : {n m e : ℕ} (h : List (BankEvent n)) (bank : BankState n m e) (old new : ArrayState n m) → Holds h bank old → new.lines ≡ old.lines → new.bounds ≡ old.bounds
    → ((line : ℕ) → IsSlotOrSpare bank.kept.shape line → new.line line ≡ old.line line) → Holds h bank new
holds-same {n = n} {m = m} {e = e} h bank old new holds many bounds same = record {
  past = holds.past;
  newest = λ line below.
      let layer : Layer = layer_of bank.kept.entries line in
      ap (λ under. laid layer.bytes layer.given under)
      (decoded-same e bank.kept holds.kept old new many bounds same (stands_at bank.kept line) (stands_at-in bank.kept holds.kept line below)) ∙ holds.newest line below;
  waiting = holds.waiting;
  few_waiting = holds.few_waiting;
  served = λ k d few.
      let w : Awaited = get_or (waits bank.kept.shape h) k d in
      let known : w.line < bank_lines bank.kept.shape = waits-known bank.kept.shape _ h holds.past k d few in
      ap (λ under. laid w.kept w.given under)
      (decoded-same e bank.kept holds.kept old new many bounds same (stands_at bank.kept w.line) (stands_at-in bank.kept holds.kept w.line known)) ∙ holds.served k d few;
  running = holds.running;
  steps = holds.steps;
  rounds = rounds-same e bank.kept holds.kept old new many bounds same (iterated h) bank.running bank.waiting holds.tied.operation holds.rounds;
  tied = tied-same e bank.kept holds.kept old new many bounds same bank.running bank.waiting holds.tied;
  regions = holds.regions;
  due_last = holds.due_last;
  entries = holds.entries;
  table = holds.table;
  exhausted = holds.exhausted;
  rows = holds.rows;
  kept = holds.kept;
}

pub elsewhere_law : ElsewhereLaw
elsewhere_law n m e xs clock old new leads many bounds same = record {
  lawful = leads.lawful;
  holds = holds-same (core xs) clock.bank old new leads.holds many bounds (λ line is. same line is.0 (omega (arith, is.1)));
  told = leads.told;
  regs = leads.regs;
  control = control-elsewhere clock.bank.kept clock.regs old new many leads.control (change-known clock.bank.kept clock.regs leads.control)
      (λ item below. let is = control-in clock.bank.kept.shape item below in same (control_line clock.bank.kept.shape item) is.0 is.1);
  pulses = λ line below.
      ap (λ (l : LineState n m). l.pulses) (same (clock.bank.kept.shape.base + line) (omega arith) (omega (arith, below))) ∙ leads.pulses line below;
  aged = has-aged-same xs clock old new leads.control bounds
      (λ line below. same (clock.bank.kept.shape.base + line) (omega arith) (omega (arith, below))) leads.aged;
  copying = leads.copying;
  taken = leads.taken;
}
