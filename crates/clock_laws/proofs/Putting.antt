-- The control lines are told by the history after each event.
use Rattle.std.proofs.Common.{arith, ◌≡◌, ℕ, ◌+◌, ◌/◌, ◌<◌, ◌≤◌, Bool, true, false, cond, List, ◌∷◌, length, Option, Some, None, is_some, refl, sym, ap, subst, ◌∙◌}
use Rattle.std.specs.Prelude.{IfSome, IsSomeAnd}
use Rattle.masked_bytes.specs.{Entries.{head_row, head_line}, declared.entry.Entry.Entry}
use Rattle.cell_rows.specs.Device.{ArrayState}
use Rattle.spare_pool.specs.Table.{Table, used_by}
use Rattle.line_writer.specs.{Writing.{steps_left, most_steps}, declared.writer.LineWriter.LineWriter}
use Rattle.bank_shape.specs.{Kinds.{is_store, is_copy}, declared.BankShape.BankShape, declared.Home.Home, declared.Work.Work, declared.answer.Step.Step}
use Rattle.bank_shape.specs.declared.Home.TheVariants as home
use Rattle.bank_shape.specs.declared.answer.Step.TheVariants as did
use Rattle.start_gap.specs.declared.Move.{Move}
use Rattle.power_recovery.{specs.Kept.{KeptState, due_region}, proofs.Bundle.{next_work-store, next_work-copy}}
use Rattle.bank_model.specs.{After.work_after, Answers.{IsDone, MayHappen}}
use Rattle.bank_model.specs.Changes.{item_if, changed_by, change_by, change_after, keeping_by, keeping_after, rounds_by, rounds_after, halted_by, halted_after}
use Rattle.bank_model.specs.{Events.{Serve, Begin, Iterate, line_of_row}, History.{queue, stores, first_or}, Timing.{TimedEvent, Happens, Core, core}}
use Rattle.reg_lines.specs.{Regs.{RegsState, IsWritingOf}, declared.Change.Change}
use Rattle.register_laws.specs.Telling.{AreTold, item_of}
use Rattle.bank_invariant.proofs.Naming.{AreNamed, queue-named, head-named}
use Rattle.clock_laws.{specs.Leads.Leads, specs.Putting.{PutLaw, region_due, item_by, put_if}, specs.State.ClockState, proofs.Ties.agrees}

-- What is put

module _ {n m e : ℕ} (kept : KeptState n) (regs : RegsState n m e) where
  put-item : (home : Home) (item : ℕ) → regs.change ≡ None → item_of (put_if (item_if home item) kept regs).change ≡ item_if home item
  put-item home.Guarded item none = ap item_of none
  put-item home.Array item none = refl

  pub put-writer : (item : Option ℕ) → (put_if item kept regs).writer ≡ regs.writer
  put-writer item = grind arith

  put-halted : (item : Option ℕ) → (put_if item kept regs).halted ≡ regs.halted
  put-halted item = grind arith

-- no line write goes on where no change stands
pub no_writer : {n m e : ℕ} (regs : RegsState n m e) (P : LineWriter n m e → Change → Type 0) → IfSome regs.writer (λ writer. IsSomeAnd regs.change (λ change. P writer change)) → regs.change ≡ None → regs.writer ≡ None
no_writer {n} {m} {e} regs P writes none = by regs.writer regs.change writes none
  where
    by : (writer : Option (LineWriter n m e)) (change : Option Change) → IfSome writer (λ writer. IsSomeAnd change (λ change. P writer change)) → change ≡ None → writer ≡ None
    by writer change writes none = grind arith

-- The items

due_is : (b : Bool) (at region : ℕ) → cond b (Some at) None ≡ Some region → at ≡ region
due_is b at region is = grind arith

module _ {n m e : ℕ} (xs : List (TimedEvent n m)) (clock : ClockState n m e) (array : ArrayState n m) (leads : Leads xs clock array) where
  done_store : (work : Work) (row place : ℕ) → IsDone clock.bank.kept.shape (core xs) work (did.Stored row place) → (is_store work ≡ true) × (row ≡ head_row (queue clock.bank.kept.shape (core xs)))
  done_store work row place done = grind arith

  done_copy : (work : Work) (move : Move) → IsDone clock.bank.kept.shape (core xs) work (did.Moved move) → is_copy work ≡ true
  done_copy work move done = grind arith

  -- the line of the head is that of its row
  stored_line : (row place : ℕ) → IsDone clock.bank.kept.shape (core xs) (work_after clock.bank.kept.shape (core xs)) (did.Stored row place)
      → head_line clock.bank.kept.entries ≡ line_of_row row (core xs)
  stored_line row place done =
      let es : List (Entry n) = clock.bank.kept.entries in
      let own = done_store (work_after clock.bank.kept.shape (core xs)) row place done in
      let some : 0 < length es = (next_work-store clock.bank.kept (ap is_store (agrees xs clock array leads).work ∙ own.0)).2 in
      let same : head_row es ≡ row = ap (λ (es : List (Entry n)). head_row es) leads.holds.entries ∙ sym own.1 in
      let named : line_of_row (head_row es) (core xs) ≡ head_line es =
      head-named (λ row. line_of_row row (core xs)) clock.bank.rows_below es some
      (subst (λ (es : List (Entry n)). AreNamed (λ row. line_of_row row (core xs)) clock.bank.rows_below es) (sym leads.holds.entries)
      (queue-named clock.bank.kept.shape _ clock.bank.rows_below (core xs) leads.holds.past leads.holds.rows)) in
      sym named ∙ ap (λ row. line_of_row row (core xs)) same

  -- the region that is due is that of the last store
  moved_region : (move : Move) → IsDone clock.bank.kept.shape (core xs) (work_after clock.bank.kept.shape (core xs)) (did.Moved move)
      → region_due (due_region clock.bank.kept) ≡ first_or 0 (stores (core xs)) / clock.bank.kept.shape.lines
  moved_region move done =
      let copy = next_work-copy clock.bank.kept (ap is_copy (agrees xs clock array leads).work ∙ done_copy (work_after clock.bank.kept.shape (core xs)) move done) in
      ap region_due copy.1.1 ∙ sym (due_is _ _ copy.1.0 (sym (agrees xs clock array leads).due ∙ copy.1.1))

  -- the item that a step changes is that of the history
  pub item-same : (answer : Step) → IsDone clock.bank.kept.shape (core xs) (work_after clock.bank.kept.shape (core xs)) answer → clock.regs.change ≡ None → (kept : KeptState n)
      → item_of (put_if (item_by clock.bank.kept answer) kept clock.regs).change ≡ changed_by clock.bank.kept.shape (core xs) answer (change_after clock.bank.kept.shape xs)
  item-same did.More done none kept = leads.regs.change
  item-same (did.Stored row place) done none kept =
      put-item kept clock.regs clock.bank.kept.shape.home (head_line clock.bank.kept.entries / clock.bank.kept.shape.lines) none
      ∙ ap (λ line. item_if clock.bank.kept.shape.home (line / clock.bank.kept.shape.lines)) (stored_line row place done)
  item-same (did.Moved move) done none kept =
      put-item kept clock.regs clock.bank.kept.shape.home (region_due (due_region clock.bank.kept)) none ∙ ap (λ region. item_if clock.bank.kept.shape.home region) (moved_region move done)
  item-same (did.Retired slot line) done none kept = absurd (no_retirement (work_after clock.bank.kept.shape (core xs)) done)
    where
      no_retirement : (work : Work) → IsDone clock.bank.kept.shape (core xs) work (did.Retired slot line) → ⊥
      no_retirement work done = grind arith
  item-same did.Exhausted done none kept = put-item kept clock.regs clock.bank.kept.shape.home (clock.bank.kept.shape.regions + clock.bank.kept.shape.spares) none

  item-iterated : (answer : Step) → MayHappen clock.bank.kept.shape (core xs) (most_steps e) (Iterate answer) → clock.regs.change ≡ None → (kept : KeptState n)
      → item_of (put_if (item_by clock.bank.kept answer) kept clock.regs).change ≡ changed_by clock.bank.kept.shape (core xs) answer (change_after clock.bank.kept.shape xs)
  item-iterated did.More may none kept = leads.regs.change
  item-iterated (did.Retired slot line) may none kept =
      put-item kept clock.regs clock.bank.kept.shape.home (clock.bank.kept.shape.regions + used_by clock.bank.kept.table) none
      ∙ ap (λ (t : Table). item_if clock.bank.kept.shape.home (clock.bank.kept.shape.regions + used_by t)) leads.holds.table
  item-iterated did.Exhausted may none kept = put-item kept clock.regs clock.bank.kept.shape.home (clock.bank.kept.shape.regions + clock.bank.kept.shape.spares) none
  item-iterated answer may none kept = item-same answer may.1 none kept

  -- What the history says of the control lines

  pub put-told : (item : Option ℕ) (kept : KeptState n) (x : TimedEvent n m) (h : Happens n) → x.happens ≡ h → clock.regs.change ≡ None
      → item_of (put_if item kept clock.regs).change ≡ change_by clock.bank.kept.shape (core xs) h (change_after clock.bank.kept.shape xs)
      → keeping_by h (keeping_after xs) ≡ false → halted_by h (halted_after xs) ≡ halted_after xs
      → AreTold clock.bank.kept.shape (x ∷ xs) (put_if item kept clock.regs)
  put-told item kept x h is none change keeping halted =
      let idle : (put_if item kept clock.regs).writer ≡ None =
      put-writer kept clock.regs item ∙ no_writer clock.regs (λ writer change. IsWritingOf writer (array.line (clock.regs.base + change.item)) change) leads.control.held.writing none in
      record {
        change = change ∙ ap (λ (h : Happens n). change_by clock.bank.kept.shape (core xs) h (change_after clock.bank.kept.shape xs)) (sym is);
        writing = ap (λ (w : Option (LineWriter n m e)). is_some w) idle ∙ sym keeping ∙ ap (λ (h : Happens n). keeping_by h (keeping_after xs)) (sym is);
        halted = put-halted kept clock.regs item ∙ leads.regs.halted ∙ sym halted ∙ ap (λ (h : Happens n). halted_by h (halted_after xs)) (sym is);
        steps = subst (λ (w : Option (LineWriter n m e)). IfSome w (λ writer. rounds_after (x ∷ xs) + steps_left writer ≤ most_steps e)) (sym idle) tt;
      }

-- an event that changes nothing of them
pub told-on : {n m e : ℕ} (shape : BankShape) (xs : List (TimedEvent n m)) (x : TimedEvent n m) (regs : RegsState n m e) (h : Happens n) → x.happens ≡ h
    → change_by shape (core xs) h (change_after shape xs) ≡ change_after shape xs → keeping_by h (keeping_after xs) ≡ keeping_after xs → halted_by h (halted_after xs) ≡ halted_after xs
    → rounds_by h (rounds_after xs) ≡ rounds_after xs → AreTold shape xs regs → AreTold shape (x ∷ xs) regs
told-on {n} {m} {e} shape xs x regs h is change keeping halted rounds told = record {
  change = told.change ∙ sym change ∙ ap (λ (h : Happens n). change_by shape (core xs) h (change_after shape xs)) (sym is);
  writing = told.writing ∙ sym keeping ∙ ap (λ (h : Happens n). keeping_by h (keeping_after xs)) (sym is);
  halted = told.halted ∙ sym halted ∙ ap (λ (h : Happens n). halted_by h (halted_after xs)) (sym is);
  steps = subst (λ (count : ℕ). IfSome regs.writer (λ writer. count + steps_left writer ≤ most_steps e))
      (sym rounds ∙ ap (λ (h : Happens n). rounds_by h (rounds_after xs)) (sym is)) told.steps;
}

pub put_law : PutLaw
put_law n m e (Serve answer) doing x xs clock kept array leads may ends alone is =
    told-on clock.bank.kept.shape xs x clock.regs (Core (Serve answer)) is refl refl refl refl leads.regs
put_law n m e (Begin answer) doing x xs clock kept array leads may ends alone is =
    put-told xs clock array leads (item_by clock.bank.kept answer) kept x (Core (Begin answer)) is alone (item-same xs clock array leads answer may.1 alone kept) refl refl
put_law n m e (Iterate answer) doing x xs clock kept array leads may ends alone is =
    put-told xs clock array leads (item_by clock.bank.kept answer) kept x (Core (Iterate answer)) is alone (item-iterated xs clock array leads answer may alone kept) refl refl
put_law n m e _ doing x xs clock kept array leads may ends alone is = absurd ends
