-- That the change that stands goes on as a timed history tells.
use Rattle.std.proofs.Common.{◌≡◌, ◌≢◌, ℕ, ◌+◌, ◌<◌, ◌≤◌, List, ◌∷◌, Option, Some, None, is_some, refl, sym, ap, subst, ◌∙◌, arith}
use Rattle.std.specs.Prelude.{IfSome, IsSomeAnd, IsTrue}
use Rattle.cell_rows.specs.Device.{ArrayState}
use Rattle.line_writer.{specs.Writing.{steps_left, most_steps}, specs.declared.writer.LineWriter.LineWriter, proofs.Rounds.going}
use Rattle.bank_shape.specs.{declared.BankShape.BankShape, declared.answer.Keep.Keep, declared.answer.Step.Step}
use Rattle.bank_shape.specs.declared.answer.Keep.TheVariants as keep
use Rattle.bank_model.specs.Changes.{change_after, changed_by, change_by, keeping_by, rounds_by, halted_by, keeping_after, rounds_after, halted_after}
use Rattle.bank_model.specs.{Events.{Write, Read, Serve, Begin, Iterate, Cut}, Timing.{TimedEvent, Happens, Core, Regs, KeepBegin, KeepIterate, KeepCut, core}}
use Rattle.reg_lines.{specs.Keeping.{with_change, broken_off, kept_on}, specs.Regs.{RegsState, IsWritingOf}, specs.declared.Change.Change, proofs.Held.begun-goes}
use Rattle.register_laws.specs.Telling.{item_of, AreTold, IsCutting, IsStep, IsAside, ToldBegunLaw, ToldIteratedLaw, ToldLeftLaw, ToldBrokenLaw, ToldPutLaw, ToldStillLaw}
use Rattle.register_laws.specs.Telling.{ToldAsideLaw}

module _ {n m e : ℕ} (shape : BankShape) (xs : List (TimedEvent n m)) where
  -- what the history tells once this has happened
  record Tells (happens : Happens n) (regs : RegsState n m e) : Type 0 where
    change : item_of regs.change ≡ change_by shape (core xs) happens (change_after shape xs)
    writing : is_some regs.writer ≡ keeping_by happens (keeping_after xs)
    halted : regs.halted ≡ halted_by happens (halted_after xs)
    steps : IfSome regs.writer (λ writer. rounds_by happens (rounds_after xs) + steps_left writer ≤ most_steps e)

  told : (x : TimedEvent n m) (regs : RegsState n m e) → Tells x.happens regs → AreTold shape (x ∷ xs) regs
  told x regs t = record { change = t.change; writing = t.writing; halted = t.halted; steps = t.steps }

  -- A step of the writing

  begun : (regs : RegsState n m e) (answer : Keep) (writer : LineWriter n m e) → AreTold shape xs regs → answer ≢ keep.Halted → steps_left writer ≤ most_steps e
      → Tells (Regs (KeepBegin answer)) (kept_on answer writer regs)
  begun regs keep.More writer t going few = record { change = t.change; writing = refl; halted = t.halted; steps = omega (arith, few) }
  begun regs keep.Done writer t going few = record { change = refl; writing = refl; halted = t.halted; steps = tt }
  begun regs keep.Halted writer t going few = absurd (going refl)

  iterated : (regs : RegsState n m e) (answer : Keep) (before writer : LineWriter n m e) → AreTold shape xs regs → rounds_after xs + steps_left before ≤ most_steps e
      → steps_left writer < steps_left before → Tells (Regs (KeepIterate answer)) (kept_on answer writer regs)
  iterated regs keep.More before writer t most few = record { change = t.change; writing = refl; halted = t.halted; steps = omega (arith, most, few) }
  iterated regs keep.Done before writer t most few = record { change = refl; writing = refl; halted = t.halted; steps = tt }
  iterated regs keep.Halted before writer t most few = record { change = t.change; writing = refl; halted = refl; steps = tt }

  -- A cut

  broken : (regs : RegsState n m e) (happens : Happens n) → AreTold shape xs regs → IsCutting happens → Tells happens (broken_off regs)
  broken regs (Core (Cut tearing)) t is = record { change = t.change; writing = refl; halted = t.halted; steps = tt }
  broken regs (Regs (KeepCut tearing)) t is = record { change = t.change; writing = refl; halted = t.halted; steps = tt }
  broken regs _ t is = absurd is

  -- A step of the bank's line write

  -- the change that it leaves, where none stood
  stepped : (regs : RegsState n m e) (change : Option Change) (happens : Happens n) (answer : Step) → AreTold shape xs regs → IsStep happens answer → regs.change ≡ None
      → regs.writer ≡ None → changed_by shape (core xs) answer None ≡ item_of change
      → Tells happens (record { base = regs.base; items = regs.items; change = change; halted = regs.halted; writer = regs.writer })
  stepped regs change (Core (Begin did)) answer t is none idle changed = record {
    change = sym changed ∙ ap (λ (a : Step). changed_by shape (core xs) a None) is ∙ ap (λ (o : Option ℕ). changed_by shape (core xs) did o) (sym (ap (λ c. item_of c) none) ∙ t.change);
    writing = ap (λ (w : Option (LineWriter n m e)). is_some w) idle;
    halted = t.halted;
    steps = rw idle tt;
  }
  stepped regs change (Core (Iterate did)) answer t is none idle changed = record {
    change = sym changed ∙ ap (λ (a : Step). changed_by shape (core xs) a None) is ∙ ap (λ (o : Option ℕ). changed_by shape (core xs) did o) (sym (ap (λ c. item_of c) none) ∙ t.change);
    writing = ap (λ (w : Option (LineWriter n m e)). is_some w) idle;
    halted = t.halted;
    steps = rw idle tt;
  }
  stepped regs change _ answer t is none idle changed = absurd is

  -- An arrival or a serve

  aside : (regs : RegsState n m e) (happens : Happens n) → AreTold shape xs regs → IsAside happens → Tells happens regs
  aside regs (Core (Write row line bytes given answer)) t is = record { change = t.change; writing = t.writing; halted = t.halted; steps = t.steps }
  aside regs (Core (Read row line answer)) t is = record { change = t.change; writing = t.writing; halted = t.halted; steps = t.steps }
  aside regs (Core (Serve answer)) t is = record { change = t.change; writing = t.writing; halted = t.halted; steps = t.steps }
  aside regs _ t is = absurd is

  -- The number of steps that are left

  left_by : (regs : RegsState n m e) (array : ArrayState n m) (writer : Option (LineWriter n m e)) (change : Option Change) → IsTrue (is_some writer)
      → IfSome writer (λ writer. IsSomeAnd change (λ change. IsWritingOf writer (array.line (regs.base + change.item)) change))
      → IfSome writer (λ writer. rounds_after xs + steps_left writer ≤ most_steps e) → rounds_after xs < most_steps e
  left_by regs array None change runs writing few = cc
  left_by regs array (Some writer) None runs writing few = absurd writing
  left_by regs array (Some writer) (Some change) runs writing few =
      let goes = going writer (array.line (regs.base + change.item)) writing.more writing.writes in
      omega (arith, few, goes.rounds)

pub told_begun_law : ToldBegunLaw
told_begun_law n m e shape xs x regs new answer after t is step =
    told shape xs x new
    (rw (is, step.leaves) (begun shape xs regs answer step.writer t (λ halted. begun-goes step.writer.progress step.begun (sym step.is ∙ halted)) step.few))

pub told_iterated_law : ToldIteratedLaw
told_iterated_law n m e tick shape xs x regs new answer before after t is step =
    let most = subst (λ (w : Option (LineWriter n m e)). IfSome w (λ writer. rounds_after xs + steps_left writer ≤ most_steps e)) step.runs t.steps in
    told shape xs x new (rw (is, step.leaves) (iterated shape xs regs answer step.writer step.now t most step.step.fewer))

pub told_left_law : ToldLeftLaw
told_left_law n m e shape xs regs array t held runs = left_by shape xs regs array regs.writer regs.change runs held.writing t.steps

pub told_broken_law : ToldBrokenLaw
told_broken_law n m e shape xs x regs t is = told shape xs x (broken_off regs) (broken shape xs regs x.happens t is)

pub told_put_law : ToldPutLaw
told_put_law n m e shape xs x regs answer change t is none idle changed =
    told shape xs x (with_change change regs) (stepped shape xs regs (Some change) x.happens answer t is none idle changed)

pub told_still_law : ToldStillLaw
told_still_law n m e shape xs x regs answer t is none idle changed =
    told shape xs x regs (subst (λ (c : Option Change). Tells shape xs x.happens (record { base = regs.base; items = regs.items; change = c; halted = regs.halted; writer = regs.writer }))
    (sym none) (stepped shape xs regs None x.happens answer t is none idle changed))

pub told_aside_law : ToldAsideLaw
told_aside_law n m e shape xs x regs t is = told shape xs x regs (aside shape xs regs x.happens t is)
