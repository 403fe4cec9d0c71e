-- The change that a step of the bank's line write brings, and that the control lines go on to hold what the bank keeps.
use Rattle.std.proofs.Common.{◌≡◌, ℕ, ◌+◌, ◌-◌, ◌/◌, ◌<◌, nat_lt, if◌then◌else◌, Bool, true, false, List, [], ◌∷◌, Option, Some, None, refl, sym, ap, subst, ◌∙◌, arith, ltb-true}
use Rattle.std.specs.Prelude.{IfSome}
use Rattle.masked_bytes.specs.{Entries.head_line, declared.entry.Entry.Entry}
use Rattle.cell_rows.specs.Device.{ArrayState}
use Rattle.spare_pool.specs.Table.{used_by}
use Rattle.bank_shape.specs.{Kinds.{is_store, is_copy}, Shape.{controls_of, controls_from, slots_of}, declared.BankShape.BankShape, declared.Home.Home, declared.Work.Work}
use Rattle.bank_shape.specs.{declared.Work.TheVariants.{Nothing, Store, Copy}, declared.answer.Step.Step, declared.clock.Action.Action}
use Rattle.bank_shape.specs.declared.Home.TheVariants as home
use Rattle.bank_shape.specs.declared.answer.Step.TheVariants as did
use Rattle.line_writer.specs.declared.writer.Progress.{Progress}
use Rattle.line_writer.specs.declared.writer.Progress.TheVariants as progress
use Rattle.power_recovery.specs.Events.{completed_kept, stored_kept, moved_kept, retired_kept, exhausted_kept}
use Rattle.power_recovery.{specs.Kept.{KeptState, IsKept, due_region, due_work, next_work, target_slot}, proofs.Bundle.{next_work-store, next_work-copy}}
use Rattle.bank_model.specs.{Changes.item_if, Events.{Begin, Iterate}, Timing.ends}
use Rattle.reg_lines.specs.Regs.{RegsState}
use Rattle.register_laws.{specs.Changing.ChangesItem, specs.Control.{Control, LeavesControls}, specs.Items.{items_of, item_values}, proofs.Changing.changes_law}
use Rattle.register_laws.proofs.{Determining.all-items, Holding.controls-items, Putting.put_law, Staying.stays_law}
use Rattle.bank_invariant.specs.State.{BankState, Operation}
use Rattle.clock_laws.{specs.Completing.after_action, specs.Putting.{item_by, put_if, region_due}, specs.State.ClockState, proofs.Controls.control-kept}
use Rattle.bank_core.specs.Stepping.{step_from}
use Rattle.bank_timing.specs.Completing.{item_from, with_regs, recorded_clock}

-- what a bank keeps after a step that is answered so, with the change of its item put: the item has a control line, and the control
-- lines hold what the bank keeps then
pub record Puts {n m e : ℕ} (old new : KeptState n) (regs : RegsState n m e) (answer : Step) : Type 0 where
  pub exists : IfSome (item_by old answer) (λ item. item < controls_of old.shape)
  pub control : (before after : ArrayState n m) → Control old regs before → regs.change ≡ None → LeavesControls regs before after
      → Control new (put_if (item_by old answer) new regs) after

-- an item has a control line where the registers are in the array
item-known : (shape : BankShape) (item : ℕ) → item < items_of shape → IfSome (item_if shape.home item) (λ item. item < controls_of shape)
item-known shape item below = by shape.home refl
  where
    by : (h : Home) → shape.home ≡ h → IfSome (item_if h item) (λ item. item < controls_of shape)
    by home.Guarded is = tt
    by home.Array is = subst (λ (count : ℕ). item < count) (sym (all-items shape home.Array is)) below

module _ {n m e : ℕ} (regs : RegsState n m e) where
  -- an event changes one item
  puts-item : (item : ℕ) (old new : KeptState n) → ChangesItem item old new → (answer : Step) → item_by old answer ≡ item_if old.shape.home item → Puts old new regs answer
  puts-item item old new changes answer is = record {
    exists = subst (λ (i : Option ℕ). IfSome i (λ item. item < controls_of old.shape)) (sym is) (item-known old.shape item changes.exists);
    control = λ before after control none leaves.
        subst (λ (i : Option ℕ). Control new (put_if i new regs) after) (sym is) (by old.shape.home refl before after control none leaves);
  }
    where
      by : (h : Home) → old.shape.home ≡ h → (before after : ArrayState n m) → Control old regs before → regs.change ≡ None → LeavesControls regs before after
          → Control new (put_if (item_if h item) new regs) after
      by home.Array is before after control none leaves =
          put_law n m e item old new regs before after (record { item = item; values = item_values new item }) control none changes
          (subst (λ (count : ℕ). item < count) (sym (all-items old.shape home.Array is)) changes.exists) refl refl leaves
      by home.Guarded is before after control none leaves =
          let same = (stays_law n m e old regs before after control leaves).same in
          let no_items = all-items old.shape home.Guarded is in
          record {
            own = record { base = same.own.base ∙ ap controls_from (sym changes.shape); items = same.own.items ∙ ap controls_of (sym changes.shape) };
            held = same.held;
            item = same.item;
            values = λ i below. absurd (none-below i (subst (λ (count : ℕ). i < count) (ap controls_of changes.shape ∙ no_items) below));
          }
        where
          none-below : (i : ℕ) → i < 0 → ⊥
          none-below i below = omega (arith, below)

  -- it changes none
  puts-none : (old new : KeptState n) → new.shape ≡ old.shape → ((item : ℕ) → item_values new item ≡ item_values old item) → (answer : Step) → item_by old answer ≡ None → Puts old new regs answer
  puts-none old new shape items answer is = record {
    exists = subst (λ (i : Option ℕ). IfSome i (λ item. item < controls_of old.shape)) (sym is) tt;
    control = λ before after control none leaves.
        subst (λ (i : Option ℕ). Control new (put_if i new regs) after) (sym is)
        (control-kept old new regs after shape items (stays_law n m e old regs before after control leaves).same);
  }

  -- a store of a head that was completed changes what a store of the head does
  stored-values : (under : List ℕ) (kept : KeptState n) (item : ℕ) → item_values (stored_kept (completed_kept under kept)) item ≡ item_values (stored_kept kept) item
  stored-values under kept item = by kept.entries
    where
      by : (es : List (Entry n)) → item_values (stored_kept (completed_kept under (record { shape = kept.shape; entries = es; table = kept.table; regions = kept.regions; exhausted = kept.exhausted }))) item
          ≡ item_values (stored_kept (record { shape = kept.shape; entries = es; table = kept.table; regions = kept.regions; exhausted = kept.exhausted })) item
      by [] = refl
      by (e ∷ es) = refl

  module _ (kept : KeptState n) (range : IsKept kept) where
    pub puts-store : (row place : ℕ) → is_store (next_work kept) ≡ true → Puts kept (stored_kept kept) regs (did.Stored row place)
    puts-store row place is = puts-item _ kept (stored_kept kept) ((changes_law n kept range).stored (next_work-store kept is).2) (did.Stored row place) refl

    pub puts-store-completed : (under : List ℕ) (row place : ℕ) → is_store (next_work kept) ≡ true → Puts kept (stored_kept (completed_kept under kept)) regs (did.Stored row place)
    puts-store-completed under row place is =
        let changes = (changes_law n kept range).stored (next_work-store kept is).2 in
        puts-item _ kept (stored_kept (completed_kept under kept))
        (record { exists = changes.exists; shape = refl; others = λ other below apart. stored-values under kept other ∙ changes.others other below apart }) (did.Stored row place) refl

    pub puts-copy : (step : _) → is_copy (next_work kept) ≡ true → Puts kept (moved_kept kept) regs (did.Moved step)
    puts-copy step is =
        let copy = (next_work-copy kept is).1 in
        puts-item copy.0 kept (moved_kept kept) ((changes_law n kept range).moved copy.0 copy.1) (did.Moved step) (ap (λ (due : Option ℕ). item_if kept.shape.home (region_due due)) copy.1)

    pub puts-more : Puts kept kept regs did.More
    puts-more = puts-none kept kept refl (λ item. refl) did.More refl

    pub puts-completed : (under : List ℕ) → Puts kept (completed_kept under kept) regs did.More
    puts-completed under = puts-none kept (completed_kept under kept) refl (λ item. refl) did.More refl

    pub puts-worn : (slot : ℕ) (b : Bool) → nat_lt (used_by kept.table) kept.shape.spares ≡ b
        → Puts kept (if b then retired_kept slot kept else exhausted_kept kept) regs (if b then did.Retired slot (slots_of kept.shape + used_by kept.table) else did.Exhausted)
    puts-worn slot true is =
        puts-item _ kept (retired_kept slot kept) ((changes_law n kept range).retired slot (ltb-true (used_by kept.table) kept.shape.spares is)) (did.Retired slot (slots_of kept.shape + used_by kept.table)) refl
    puts-worn slot false is = puts-item _ kept (exhausted_kept kept) (changes_law n kept range).exhausted did.Exhausted refl

-- The item is that which the code names by the work, and by the spares that were used

module _ {n : ℕ} (kept : KeptState n) where
  store-line : (line slot : ℕ) → next_work kept ≡ Store line slot → line ≡ head_line kept.entries
  store-line line slot = by kept.exhausted (due_region kept) kept.entries
    where
      by : (mark : Bool) (due : Option ℕ) (es : List (Entry n)) → (if mark then Nothing else due_work due kept es) ≡ Store line slot → line ≡ head_line es
      by true due es is = absurd (cc)
      by false (Some region) es is = absurd (cc)
      by false None [] is = absurd (cc)
      by false None (e ∷ es) is = cc

  copy-region : (region : ℕ) (step : _) → next_work kept ≡ Copy region step → region ≡ region_due (due_region kept)
  copy-region region step = by kept.exhausted (due_region kept) kept.entries
    where
      by : (mark : Bool) (due : Option ℕ) (es : List (Entry n)) → (if mark then Nothing else due_work due kept es) ≡ Copy region step → region ≡ region_due due
      by true due es is = absurd (cc)
      by false (Some at) es is = cc
      by false None [] is = absurd (cc)
      by false None (e ∷ es) is = absurd (cc)

  pub item-named : {m e : ℕ} (op : Operation n m e) (p : Progress) (work : Work) → op.work ≡ work → next_work kept ≡ work
      → item_from kept.shape work (step_from kept op p) ≡ item_by kept (step_from kept op p)
  item-named op progress.More work is next = refl
  item-named op progress.Stored work is next =
      subst (λ (w : Work). item_from kept.shape work (step_from kept (record { work = w; target = op.target; writer = op.writer }) progress.Stored)
      ≡ item_by kept (step_from kept (record { work = w; target = op.target; writer = op.writer }) progress.Stored)) (sym is) (by work next)
    where
      by : (work : Work) → next_work kept ≡ work
          → item_from kept.shape work (step_from kept (record { work = work; target = op.target; writer = op.writer }) progress.Stored)
          ≡ item_by kept (step_from kept (record { work = work; target = op.target; writer = op.writer }) progress.Stored)
      by Nothing next = refl
      by (Store line slot) next = ap (λ (line : ℕ). item_if kept.shape.home (line / kept.shape.lines)) (store-line line slot next)
      by (Copy region step) next = ap (λ (region : ℕ). item_if kept.shape.home region) (copy-region region step next)
  item-named op (progress.Worn cause) work is next = by (nat_lt (used_by kept.table) kept.shape.spares)
    where
      behind : (slots used : ℕ) → slots + used - slots ≡ used
      behind slots used = omega (arith)

      by : (b : Bool) → item_from kept.shape work (if b then did.Retired (target_slot kept op.work) (slots_of kept.shape + used_by kept.table) else did.Exhausted)
          ≡ item_by kept (if b then did.Retired (target_slot kept op.work) (slots_of kept.shape + used_by kept.table) else did.Exhausted)
      by true = ap (λ (spare : ℕ). item_if kept.shape.home (kept.shape.regions + spare)) (behind (slots_of kept.shape) (used_by kept.table))
      by false = refl

-- what a put of that change asks for
pub record PutReady {n m e : ℕ} (bank : BankState n m e) (regs : RegsState n m e) (work : Work) (answer : Step) : Type 0 where
  pub free : IfSome (item_from bank.kept.shape work answer) (λ item. regs.change ≡ None)
  pub items : IfSome (item_from bank.kept.shape work answer) (λ item. item < regs.items)
  pub known : IfSome (item_from bank.kept.shape work answer) (λ item. item < items_of bank.kept.shape)

pub put-ready : {n m e : ℕ} (old : KeptState n) (new : BankState n m e) (regs : RegsState n m e) (array : ArrayState n m) (work : Work) (answer : Step) → Control old regs array → regs.change ≡ None
    → new.kept.shape ≡ old.shape → Puts old new.kept regs answer → item_from new.kept.shape work answer ≡ item_by old answer → PutReady new regs work answer
put-ready {n} {m} {e} old new regs array work answer control alone shape puts item =
    record {
      free = subst (λ (i : Option ℕ). IfSome i (λ item. regs.change ≡ None)) (sym item) (each (item_by old answer) (λ item. regs.change ≡ None) (λ item below. alone) puts.exists);
      items = subst (λ (i : Option ℕ). IfSome i (λ item. item < regs.items)) (sym item)
          (each (item_by old answer) (λ item. item < regs.items) (λ item below. subst (λ (count : ℕ). item < count) (sym control.own.items) below) puts.exists);
      known = subst (λ (i : Option ℕ). IfSome i (λ item. item < items_of new.kept.shape)) (sym item)
          (each (item_by old answer) (λ item. item < items_of new.kept.shape) (λ item below. subst (λ (s : BankShape). item < items_of s) (sym shape) (controls-items old.shape item below)) puts.exists);
    }
  where
    each : (i : Option ℕ) (P : ℕ → Type 0) → ((item : ℕ) → item < controls_of old.shape → P item) → IfSome i (λ item. item < controls_of old.shape) → IfSome i P
    each None P from is = tt
    each (Some item) P from is = from item is

-- the clock after the step was recorded and its change put is that after the action
module _ {n m e : ℕ} (clock : ClockState n m e) (bank : BankState n m e) (action : Action) (work : Work) where
  abbrev put_then : Step → ClockState n m e
  put_then answer =
      with_regs (put_if (item_from bank.kept.shape work answer) bank.kept clock.regs)
      (recorded_clock answer (record { bank = bank; regs = clock.regs; pace = clock.pace; tick = ends clock.pace action; action = None; arrivals = clock.arrivals; cancels = clock.cancels; drained = clock.drained }))

  pub begun-clock : (answer : Step) → item_from bank.kept.shape work answer ≡ item_by clock.bank.kept answer
      → put_then answer ≡ after_action clock bank (put_if (item_by clock.bank.kept answer) bank.kept clock.regs) action (Begin answer)
  begun-clock answer item =
      ap (λ (i : Option ℕ). with_regs (put_if i bank.kept clock.regs) (recorded_clock answer (record { bank = bank; regs = clock.regs; pace = clock.pace; tick = ends clock.pace action; action = None; arrivals = clock.arrivals; cancels = clock.cancels; drained = clock.drained }))) item
      ∙ by answer
    where
      by : (answer : Step) → with_regs (put_if (item_by clock.bank.kept answer) bank.kept clock.regs) (recorded_clock answer (record { bank = bank; regs = clock.regs; pace = clock.pace; tick = ends clock.pace action; action = None; arrivals = clock.arrivals; cancels = clock.cancels; drained = clock.drained }))
          ≡ after_action clock bank (put_if (item_by clock.bank.kept answer) bank.kept clock.regs) action (Begin answer)
      by did.More = refl
      by (did.Stored row place) = refl
      by (did.Moved step) = refl
      by (did.Retired slot line) = refl
      by did.Exhausted = refl

  pub iterated-clock : (answer : Step) → item_from bank.kept.shape work answer ≡ item_by clock.bank.kept answer
      → put_then answer ≡ after_action clock bank (put_if (item_by clock.bank.kept answer) bank.kept clock.regs) action (Iterate answer)
  iterated-clock answer item =
      ap (λ (i : Option ℕ). with_regs (put_if i bank.kept clock.regs) (recorded_clock answer (record { bank = bank; regs = clock.regs; pace = clock.pace; tick = ends clock.pace action; action = None; arrivals = clock.arrivals; cancels = clock.cancels; drained = clock.drained }))) item
      ∙ by answer
    where
      by : (answer : Step) → with_regs (put_if (item_by clock.bank.kept answer) bank.kept clock.regs) (recorded_clock answer (record { bank = bank; regs = clock.regs; pace = clock.pace; tick = ends clock.pace action; action = None; arrivals = clock.arrivals; cancels = clock.cancels; drained = clock.drained }))
          ≡ after_action clock bank (put_if (item_by clock.bank.kept answer) bank.kept clock.regs) action (Iterate answer)
      by did.More = refl
      by (did.Stored row place) = refl
      by (did.Moved step) = refl
      by (did.Retired slot line) = refl
      by did.Exhausted = refl
