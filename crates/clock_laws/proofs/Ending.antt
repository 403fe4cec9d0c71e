-- Each action of the bank that ends, told by what the bank keeps.
use Rattle.std.proofs.Common.{◌≡◌, ℕ, ◌<◌, false, List, [], ◌∷◌, ◌++◌, map, length, slice_get, Option, Some, None, refl, sym, ap, subst, ◌∙◌, arith}
use Rattle.std.specs.Prelude.{IfSome, IsSomeAnd, IsTrue, All}
use Rattle.masked_bytes.specs.{Entries.{layer_of, head_row, head_line}, Masked.laid, declared.entry.Entry.Entry}
use Rattle.cell_rows.specs.Device.{ArrayState, LineState}
use Rattle.ecp_line.{specs.ArrayLines.decoded, specs.Reading.decode, proofs.Bytes.length-decode}
use Rattle.start_gap.specs.declared.Move.{Move}
use Rattle.bank_shape.specs.{Kinds.is_copy, Shape.slot_at, declared.BankShape.BankShape, declared.Work.Work, declared.Work.TheVariants.{Store, Copy}, declared.answer.Step.Step}
use Rattle.bank_shape.specs.{declared.clock.Action.Action, declared.clock.Doing.Doing, declared.waiting.Waiting.Waiting}
use Rattle.bank_shape.specs.declared.answer.Step.TheVariants as did
use Rattle.power_recovery.{specs.Kept.{KeptState, slot_of, array_line, stands_at, due_region, next_work}, specs.Slots.bank_lines, proofs.Bundle.head-known}
use Rattle.bank_model.specs.{After.{work_after, sources_of, stands_at_after, target_after}, Answers.{IsDone, IsIterated, MayAll, MayHappen}}
use Rattle.bank_model.specs.{Events.{BankEvent, Serve, Begin, Iterate, newest, up_to, line_of_row}, History.{Awaited, queue, waits}}
use Rattle.bank_model.specs.{Sensing.{is_at, most_steps, stand_of, sensed_by, pulsed_by, IsReadRight, IsLaid, copied, begun_with}, Timing.{Core, TimedEvent, core, ends}}
use Rattle.bank_model.specs.Touching.{AreStruck, Touches, shown}
use Rattle.bank_laws.{specs.Pairs.ArePaired, proofs.Pairs.pair_law}
use Rattle.reg_lines.specs.Regs.{RegsState}
use Rattle.register_laws.specs.Telling.{AreTold}
use Rattle.bank_invariant.specs.{Beginning.{sources, lines_sensed}, Holds.waiting_of, State.{BankState, Operation, target_of}, Tied.IsOf}
use Rattle.bank_invariant.proofs.{Awaiting.waits-known, Finishing.next_store-line, Naming.{AreNamed, queue-named, head-named}, Targets.next_store-slot, Tearing.running_of}
use Rattle.clock_laws.specs.{Actions.{IsCompletion, GoesOn, ServeEndsLaw, WritesCopy, ReadsAsHead, BeginEndsLaw, IterateEndsLaw}, Completing.{completed, EndsDoing}}
use Rattle.clock_laws.specs.{Extending.is_tear, Leads.{Leads, CopiesWhatItSensed}, Putting.{item_with, put_if}, State.ClockState, Tearing.GoesOnWriting}
use Rattle.clock_laws.proofs.{Completing.completion_law, Extending.one_added_law, Freshness.{AreFresh, newest_at, queue-fresh, head-bytes, head-under}, Putting.put_law}
use Rattle.clock_laws.proofs.{Ranges.pulsed-in, Ties.agrees}

-- What is sensed and pulsed

module _ {n m e : ℕ} (xs : List (TimedEvent n m)) (clock : ClockState n m e) (array : ArrayState n m) (leads : Leads xs clock array) where
  same_sources : (work : Work) → sources_of clock.bank.kept.shape (core xs) work ≡ sources clock.bank.kept work
  same_sources work = grind arith

  begin-senses : (answer : Step) (work : Work) → next_work clock.bank.kept ≡ work → lines_sensed clock.bank.kept work ≡ sensed_by clock.bank.kept.shape (core xs) [] (Begin answer)
  begin-senses answer work is =
      ap (λ work. lines_sensed clock.bank.kept work) (sym is)
      ∙ ap (λ target. sources clock.bank.kept (next_work clock.bank.kept) ++ target ∷ []) (agrees xs clock array leads).target
      ∙ ap (λ lines. lines ++ target_after clock.bank.kept.shape (core xs) ∷ []) (sym (same_sources (next_work clock.bank.kept)))
      ∙ ap (λ work. sources_of clock.bank.kept.shape (core xs) work ++ target_after clock.bank.kept.shape (core xs) ∷ []) (agrees xs clock array leads).work

  pub op-target : (op : Operation n m e) → clock.bank.running ≡ Some op → op.target ≡ target_after clock.bank.kept.shape (core xs)
  op-target op is =
      let run = running_of (core xs) clock.bank array op leads.holds is in
      run.target ∙ ap (λ work. target_of clock.bank.kept work) run.next ∙ (agrees xs clock array leads).target

  op-work : (op : Operation n m e) → clock.bank.running ≡ Some op → op.work ≡ work_after clock.bank.kept.shape (core xs)
  op-work op is = (running_of (core xs) clock.bank array op leads.holds is).next ∙ (agrees xs clock array leads).work

  -- the array line where the line of the first read stands
  first-senses : (w : Waiting n) (ws : List (Waiting n)) → clock.bank.waiting ≡ w ∷ ws
      → (v : Awaited) × (vs : List Awaited) × (waits clock.bank.kept.shape (core xs) ≡ v ∷ vs) × (w ≡ waiting_of v)
      × (stands_at clock.bank.kept w.line ∷ [] ≡ stand_of clock.bank.kept.shape (core xs) (v ∷ vs))
  first-senses w ws is =
      by (waits clock.bank.kept.shape (core xs)) refl (sym is ∙ leads.holds.waiting) (waits-known clock.bank.kept.shape _ (core xs) leads.holds.past)
    where
      by : (vs : List Awaited) → waits clock.bank.kept.shape (core xs) ≡ vs → w ∷ ws ≡ map waiting_of vs → All (λ v. v.line < bank_lines clock.bank.kept.shape) vs
          → (v : Awaited) × (rest : List Awaited) × (waits clock.bank.kept.shape (core xs) ≡ v ∷ rest) × (w ≡ waiting_of v)
          × (stands_at clock.bank.kept w.line ∷ [] ≡ stand_of clock.bank.kept.shape (core xs) (v ∷ rest))
      by [] at same known = absurd (cc)
      by (v ∷ vs) at same known =
          let own : w ≡ waiting_of v = cc in
          let stands : stands_at clock.bank.kept w.line ≡ stands_at_after clock.bank.kept.shape (core xs) v.line =
          ap (λ (w : Waiting n). stands_at clock.bank.kept w.line) own ∙ (agrees xs clock array leads).stands v.line (known 0 v (omega arith)) in
          (v, vs, at, own, ap (λ line. line ∷ []) stands)

-- One event

no_tear : {n : ℕ} (event : BankEvent n) (pulsed : Option ℕ) (doing : Doing) → EndsDoing event doing → false ≡ is_tear (Core event) pulsed
no_tear event pulsed doing is = grind arith

module _ {n m e : ℕ} (xs : List (TimedEvent n m)) (clock : ClockState n m e) (bank : BankState n m e) (regs : RegsState n m e) (event : BankEvent n) (action : Action) (sensed : List ℕ) (pulsed : Option ℕ) (old new : ArrayState n m)
    (leads : Leads xs clock old) (end : IsCompletion xs clock bank regs event action sensed pulsed old new) where
  -- it may happen
  may-end : MayHappen clock.bank.kept.shape (core xs) (most_steps e) event
  may-end =
      let past : MayAll clock.bank.kept.shape (most_steps e) (event ∷ core xs) = subst (λ (shape : BankShape). MayAll shape (most_steps e) (event ∷ core xs)) end.shape end.holds.past in
      past.0

  -- a serve leaves the writing of the change that stands
  aside : (event : BankEvent n) (doing : Doing) (tick : ℕ) (pulsed : Option ℕ) → EndsDoing event doing → regs ≡ put_if (item_with clock.bank.kept event) bank.kept clock.regs
      → GoesOnWriting tick clock.regs regs (Core event) pulsed old new
  aside event doing tick pulsed is put = grind arith

  -- where it senses and pulses what the history says, and reads it right
  finish : sensed ≡ sensed_by clock.bank.kept.shape (core xs) [] event → pulsed ≡ pulsed_by clock.bank.kept.shape (core xs) None event
      → IsReadRight e clock.bank.kept.shape xs event (shown (ends clock.pace action) sensed new)
      → IfSome bank.running (CopiesWhatItSensed (completed xs clock action event new ∷ xs)) → GoesOn xs clock bank regs event action old new
  finish senses pulses right copies =
      let x : TimedEvent n m = completed xs clock action event new in
      let touches : Touches (ends clock.pace action) (sensed_by clock.bank.kept.shape (core xs) [] event) (pulsed_by clock.bank.kept.shape (core xs) None event) false old new =
      subst (λ (sensed : List ℕ). Touches (ends clock.pace action) sensed (pulsed_by clock.bank.kept.shape (core xs) None event) false old new) senses
      (subst (λ (pulsed : Option ℕ). Touches (ends clock.pace action) sensed pulsed false old new) pulses end.touches) in
      let struck : AreStruck clock.bank.kept.shape (core xs) event (pulsed_by clock.bank.kept.shape (core xs) None event) old new =
      subst (λ (pulsed : Option ℕ). AreStruck clock.bank.kept.shape (core xs) event pulsed old new) pulses end.struck in
      let told : AreTold clock.bank.kept.shape (x ∷ xs) regs =
      subst (λ (regs : RegsState n m e). AreTold clock.bank.kept.shape (x ∷ xs) regs) (sym end.put)
      (put_law n m e event action.doing x xs clock bank.kept old leads may-end end.doing end.alone refl) in
      record {
        leads =
            completion_law n m e event action xs clock bank regs old new leads end.next end.doing end.later end.alone end.holds end.shape end.taken touches struck
            (subst (λ (sensed : List ℕ). IsReadRight e clock.bank.kept.shape xs event (shown (ends clock.pace action) sensed new)) senses right) copies told end.control (aside event action.doing (ends clock.pace action) (pulsed_by clock.bank.kept.shape (core xs) None event) end.doing end.put);
        adds =
            one_added_law n m clock.bank.kept.shape x (sensed_by clock.bank.kept.shape (core xs) [] event) false old new refl
            (pulsed-in (core xs) clock.bank old leads.holds None event tt) (no_tear event (pulsed_by clock.bank.kept.shape (core xs) None event) action.doing end.doing) touches;
      }

  -- no line write is left
  none-copies : (x : TimedEvent n m) → bank.running ≡ None → IfSome bank.running (CopiesWhatItSensed (x ∷ xs))
  none-copies x none = subst (λ (r : Option (Operation n m e)). IfSome r (CopiesWhatItSensed (x ∷ xs))) (sym none) tt

  -- a line that isn't pulsed is read as before
  same-read : (line : ℕ) → pulsed ≡ None → decoded e new line ≡ decoded e old line
  same-read line none = ap (λ (l : LineState n m). decode e l.held) (end.touches.others line (ap (λ p. is_at p line) none))

-- Serves

pub serve_ends_law : ServeEndsLaw
serve_ends_law n m e answer action w ws xs clock bank regs old new leads first end running bytes =
    let place : ℕ = stands_at clock.bank.kept w.line in
    let at = first-senses xs clock old leads w ws first in
    let v : Awaited = at.0 in
    let waiting : waits clock.bank.kept.shape (core xs) ≡ v ∷ at.1 = at.2 in
    let own : w ≡ waiting_of v = at.3 in
    let read : decoded e new place ≡ decoded e old place = same-read xs clock bank regs (Serve answer) action (place ∷ []) None old new leads end place refl in
    let laid_so : answer.bytes ≡ laid v.kept v.given (decode e (new.line place).held) =
    bytes ∙ ap (λ (w : Waiting n). laid w.kept w.given (decoded e old place)) own ∙ ap (λ under. laid v.kept v.given under) (sym read) in
    finish xs clock bank regs (Serve answer) action (place ∷ []) None old new leads end
    (at.4 ∙ ap (λ vs. stand_of clock.bank.kept.shape (core xs) vs) (sym waiting)) refl
    (subst (λ (vs : List Awaited). IsLaid e vs answer.bytes (new.line place).held) (sym waiting) laid_so)
    (still bank.running (subst (λ (r : Option (Operation n m e)). IfSome r (CopiesWhatItSensed xs)) (sym running) leads.copying))
  where
    still : (r : Option (Operation n m e)) → IfSome r (CopiesWhatItSensed xs) → IfSome r (CopiesWhatItSensed (completed xs clock action (Serve answer) new ∷ xs))
    still r own = grind arith

-- Stores

module _ {n m e : ℕ} (xs : List (TimedEvent n m)) (clock : ClockState n m e) (old : ArrayState n m) (leads : Leads xs clock old) where
  entries-fresh : AreFresh (newest_at (core xs)) (newest (core xs)) clock.bank.kept.entries
  entries-fresh =
      subst (λ (es : List (Entry n)). AreFresh (newest_at (core xs)) (newest (core xs)) es) (sym leads.holds.entries)
      (queue-fresh clock.bank.kept.shape _ (core xs) clock.bank.rows_below leads.holds.past leads.holds.rows)

  -- the newest bytes of the head's line as of its write are those of its row
  head-row : (row : ℕ) → row ≡ head_row (queue clock.bank.kept.shape (core xs)) → 0 < length clock.bank.kept.entries
      → newest_at (core xs) (head_row clock.bank.kept.entries) (head_line clock.bank.kept.entries) ≡ newest (up_to row (core xs)) (line_of_row row (core xs))
  head-row row is some =
      let es : List (Entry n) = clock.bank.kept.entries in
      let same : head_row es ≡ row = ap (λ (es : List (Entry n)). head_row es) leads.holds.entries ∙ sym is in
      let named : line_of_row (head_row es) (core xs) ≡ head_line es =
      head-named (λ row. line_of_row row (core xs)) clock.bank.rows_below es some
      (subst (λ (es : List (Entry n)). AreNamed (λ row. line_of_row row (core xs)) clock.bank.rows_below es) (sym leads.holds.entries)
      (queue-named clock.bank.kept.shape _ clock.bank.rows_below (core xs) leads.holds.past leads.holds.rows)) in
      ap (λ line. newest_at (core xs) (head_row es) line) (sym named) ∙ ap (λ row. newest (up_to row (core xs)) (line_of_row row (core xs))) same

  some-head : (es : List (Entry n)) (P : Entry n → Type 0) → IsSomeAnd (slice_get es 0) P → 0 < length es
  some-head [] P some = absurd some
  some-head (head ∷ es) P some = omega arith

  -- a store that is done is of the head
  stored-row : (work : Work) (row place : ℕ) → IsDone clock.bank.kept.shape (core xs) work (did.Stored row place) → row ≡ head_row (queue clock.bank.kept.shape (core xs))
  stored-row work row place done = grind arith

  -- the bytes that a store writes
  written-bytes : (work : Work) (row place : ℕ) (bytes : List ℕ) → IsDone clock.bank.kept.shape (core xs) work (did.Stored row place)
      → IsOf e clock.bank.kept old clock.bank.waiting bytes work → bytes ≡ newest (up_to row (core xs)) (line_of_row row (core xs))
  written-bytes (Store line slot) row place bytes done of =
      head-bytes (core xs) clock.bank.kept.entries bytes line entries-fresh of.0 ∙ head-row row done.0 (some-head clock.bank.kept.entries _ of.0)
  written-bytes _ row place bytes done of = absurd done

  -- what a target that already reads as the head is read as
  under-bytes : (line slot row : ℕ) → next_work clock.bank.kept ≡ Store line slot → row ≡ head_row (queue clock.bank.kept.shape (core xs))
      → ReadsAsHead e clock.bank.kept old (Store line slot) → decoded e old (array_line clock.bank.kept slot) ≡ newest (up_to row (core xs)) (line_of_row row (core xs))
  under-bytes line slot row next is reads =
      let kept : KeptState n = clock.bank.kept in
      let es : List (Entry n) = kept.entries in
      let under : List ℕ = decoded e old (array_line kept slot) in
      let some : 0 < length es = some-head es _ reads in
      let place : slot ≡ slot_of kept line = next_store-slot kept line slot kept.exhausted (due_region kept) es (sym next) in
      let at_head : head_line es ≡ line = next_store-line kept line slot kept.exhausted (due_region kept) es (sym next) in
      let known : head_line es < bank_lines kept.shape = head-known es (bank_lines kept.shape) leads.holds.kept.known some in
      let paired : ArePaired es = subst (λ (es : List (Entry n)). ArePaired es) (sym leads.holds.entries) (pair_law n _ kept.shape (core xs) leads.holds.past) in
      let shown_so : laid (layer_of es (head_line es)).bytes (layer_of es (head_line es)).given under ≡ newest (core xs) (head_line es) =
      ap (λ s. laid (layer_of es (head_line es)).bytes (layer_of es (head_line es)).given (decoded e old (array_line kept s))) (place ∙ ap (λ l. slot_of kept l) (sym at_head))
      ∙ leads.holds.newest (head_line es) known in
      head-under (core xs) es under entries-fresh paired leads.holds.kept.masked (length-decode e (old.line (array_line kept slot)).held) shown_so reads ∙ head-row row is some

-- Begins

module _ {n m e : ℕ} (action : Action) (xs : List (TimedEvent n m)) (clock : ClockState n m e) (bank : BankState n m e) (regs : RegsState n m e) (old new : ArrayState n m) (leads : Leads xs clock old) where
  -- a gap move that goes on writes what its begin sensed
  copies-begun : (work : Work) (bytes : List ℕ) (sensed : List ℕ) (tick : ℕ) → lines_sensed clock.bank.kept work ≡ sensed → ((line : ℕ) → decoded e new line ≡ decoded e old line)
      → WritesCopy e clock.bank.kept old bytes work → IsTrue (is_copy work)
      → IsSomeAnd (begun_with (Core (Begin did.More)) (shown tick sensed new) (copied xs)) (λ source. bytes ≡ decode e source)
  copies-begun work bytes sensed tick lines same writes copies = grind arith

  begun-more : (work : Work) → next_work clock.bank.kept ≡ work
      → IsCompletion xs clock bank regs (Begin did.More) action (lines_sensed clock.bank.kept work) None old new
      → IsSomeAnd bank.running (λ op. (op.work ≡ work) × WritesCopy e clock.bank.kept old op.writer.bytes work) → GoesOn xs clock bank regs (Begin did.More) action old new
  begun-more work next end leaves =
      finish xs clock bank regs (Begin did.More) action (lines_sensed clock.bank.kept work) None old new leads end lines refl tt (by bank.running leaves)
    where
      lines : lines_sensed clock.bank.kept work ≡ sensed_by clock.bank.kept.shape (core xs) [] (Begin did.More)
      lines = begin-senses xs clock old leads did.More work next

      by : (r : Option (Operation n m e)) → IsSomeAnd r (λ op. (op.work ≡ work) × WritesCopy e clock.bank.kept old op.writer.bytes work)
          → IfSome r (CopiesWhatItSensed (completed xs clock action (Begin did.More) new ∷ xs))
      by None own = tt
      by (Some op) own = λ copies.
          copies-begun work op.writer.bytes (sensed_by clock.bank.kept.shape (core xs) [] (Begin did.More)) (ends clock.pace action) lines
          (λ line. same-read xs clock bank regs (Begin did.More) action (lines_sensed clock.bank.kept work) None old new leads end line refl) own.1
          (ap (λ work. is_copy work) (sym own.0) ∙ copies)

  begun-done : (answer : Step) (work : Work) (sensed : List ℕ) → next_work clock.bank.kept ≡ work → IsCompletion xs clock bank regs (Begin answer) action sensed None old new
      → IsDone clock.bank.kept.shape (core xs) work answer
  begun-done answer work sensed next end =
      subst (λ (work : Work). IsDone clock.bank.kept.shape (core xs) work answer) (sym (agrees xs clock old leads).work ∙ next)
      (may-end xs clock bank regs (Begin answer) action sensed None old new leads end).1

  begun-stored : (row place : ℕ) (work : Work) → next_work clock.bank.kept ≡ work
      → IsCompletion xs clock bank regs (Begin (did.Stored row place)) action (lines_sensed clock.bank.kept work) None old new
      → bank.running ≡ None → ReadsAsHead e clock.bank.kept old work → GoesOn xs clock bank regs (Begin (did.Stored row place)) action old new
  begun-stored row place (Store line slot) next end none reads =
      let done = begun-done (did.Stored row place) (Store line slot) (lines_sensed clock.bank.kept (Store line slot)) next end in
      let target : ℕ = array_line clock.bank.kept slot in
      finish xs clock bank regs (Begin (did.Stored row place)) action (target ∷ []) None old new leads end
      (begin-senses xs clock old leads (did.Stored row place) (Store line slot) next) refl
      (same-read xs clock bank regs (Begin (did.Stored row place)) action (target ∷ []) None old new leads end target refl
      ∙ under-bytes xs clock old leads line slot row next done.0 reads)
      (none-copies xs clock bank regs (Begin (did.Stored row place)) action (target ∷ []) None old new leads end (completed xs clock action (Begin (did.Stored row place)) new) none)
  begun-stored row place event next end none reads = let done : ⊥ = begun-done (did.Stored row place) event (lines_sensed clock.bank.kept event) next end in absurd done

  begun-moved : (moved : Move) (work : Work) → next_work clock.bank.kept ≡ work
      → IsCompletion xs clock bank regs (Begin (did.Moved moved)) action (lines_sensed clock.bank.kept work) None old new
      → bank.running ≡ None → WritesCopy e clock.bank.kept old (decoded e old (target_of clock.bank.kept work)) work → GoesOn xs clock bank regs (Begin (did.Moved moved)) action old new
  begun-moved moved (Copy region step) next end none writes =
      let source : ℕ = array_line clock.bank.kept (slot_at clock.bank.kept.shape region step.from) in
      let target : ℕ = target_of clock.bank.kept (Copy region step) in
      finish xs clock bank regs (Begin (did.Moved moved)) action (source ∷ target ∷ []) None old new leads end
      (begin-senses xs clock old leads (did.Moved moved) (Copy region step) next) refl
      (same-read xs clock bank regs (Begin (did.Moved moved)) action (source ∷ target ∷ []) None old new leads end target refl ∙ writes
      ∙ sym (same-read xs clock bank regs (Begin (did.Moved moved)) action (source ∷ target ∷ []) None old new leads end source refl))
      (none-copies xs clock bank regs (Begin (did.Moved moved)) action (source ∷ target ∷ []) None old new leads end (completed xs clock action (Begin (did.Moved moved)) new) none)
  begun-moved moved event next end none writes = let done : ⊥ = begun-done (did.Moved moved) event (lines_sensed clock.bank.kept event) next end in absurd done

pub begin_ends_law : BeginEndsLaw
begin_ends_law n m e did.More action work xs clock bank regs old new leads next end leaves = begun-more action xs clock bank regs old new leads work next end leaves
begin_ends_law n m e (did.Stored row place) action work xs clock bank regs old new leads next end leaves =
    begun-stored action xs clock bank regs old new leads row place work next end leaves.0 leaves.1
begin_ends_law n m e (did.Moved moved) action work xs clock bank regs old new leads next end leaves =
    begun-moved action xs clock bank regs old new leads moved work next end leaves.0 leaves.1
begin_ends_law n m e _ action work xs clock bank regs old new leads next end leaves = absurd leaves

-- Iterations

module _ {n m e : ℕ} (action : Action) (op : Operation n m e) (xs : List (TimedEvent n m)) (clock : ClockState n m e) (bank : BankState n m e) (regs : RegsState n m e) (old new : ArrayState n m) (leads : Leads xs clock old)
    (is : clock.bank.running ≡ Some op) where
  own-copies : CopiesWhatItSensed xs op
  own-copies = subst (λ (r : Option (Operation n m e)). IfSome r (CopiesWhatItSensed xs)) is leads.copying

  iterated-senses : op.target ∷ [] ≡ target_after clock.bank.kept.shape (core xs) ∷ []
  iterated-senses = ap (λ line. line ∷ []) (op-target xs clock old leads op is)

  iterated-pulses : Some op.target ≡ Some (target_after clock.bank.kept.shape (core xs))
  iterated-pulses = ap (λ line. Some line) (op-target xs clock old leads op is)

  iterated-may : (answer : Step) → IsCompletion xs clock bank regs (Iterate answer) action (op.target ∷ []) (Some op.target) old new
      → IsIterated clock.bank.kept.shape (core xs) op.work answer
  iterated-may answer end =
      let may = may-end xs clock bank regs (Iterate answer) action (op.target ∷ []) (Some op.target) old new leads end in
      subst (λ (work : Work). IsIterated clock.bank.kept.shape (core xs) work answer) (sym (op-work xs clock old leads op is)) may.1

  -- an iteration that leaves no line write
  iterated-none : (answer : Step) → IsCompletion xs clock bank regs (Iterate answer) action (op.target ∷ []) (Some op.target) old new → bank.running ≡ None
      → IsReadRight e clock.bank.kept.shape xs (Iterate answer) (shown (ends clock.pace action) (op.target ∷ []) new) → GoesOn xs clock bank regs (Iterate answer) action old new
  iterated-none answer end none right =
      finish xs clock bank regs (Iterate answer) action (op.target ∷ []) (Some op.target) old new leads end iterated-senses iterated-pulses right
      (none-copies xs clock bank regs (Iterate answer) action (op.target ∷ []) (Some op.target) old new leads end (completed xs clock action (Iterate answer) new) none)

  iterated-more : IsCompletion xs clock bank regs (Iterate did.More) action (op.target ∷ []) (Some op.target) old new
      → IsSomeAnd bank.running (λ later. (later.work ≡ op.work) × (later.writer.bytes ≡ op.writer.bytes)) → GoesOn xs clock bank regs (Iterate did.More) action old new
  iterated-more end leaves =
      finish xs clock bank regs (Iterate did.More) action (op.target ∷ []) (Some op.target) old new leads end iterated-senses iterated-pulses tt (by bank.running leaves)
    where
      by : (r : Option (Operation n m e)) → IsSomeAnd r (λ later. (later.work ≡ op.work) × (later.writer.bytes ≡ op.writer.bytes))
          → IfSome r (CopiesWhatItSensed (completed xs clock action (Iterate did.More) new ∷ xs))
      by None same = tt
      by (Some later) same = λ copies.
          subst (λ (bytes : List ℕ). IsSomeAnd (copied xs) (λ source. bytes ≡ decode e source)) (sym same.1) (own-copies (ap (λ work. is_copy work) (sym same.0) ∙ copies))

  -- a gap move that is done is a copy
  moves-copy : (work : Work) (moved : Move) → IsDone clock.bank.kept.shape (core xs) work (did.Moved moved) → IsTrue (is_copy work)
  moves-copy work moved done = grind arith

pub iterate_ends_law : IterateEndsLaw
iterate_ends_law n m e did.More action op xs clock bank regs old new leads is end leaves = iterated-more action op xs clock bank regs old new leads is end leaves
iterate_ends_law n m e (did.Stored row place) action op xs clock bank regs old new leads is end leaves =
    iterated-none action op xs clock bank regs old new leads is (did.Stored row place) end leaves.0
    (leaves.1 ∙ written-bytes xs clock old leads op.work row place op.writer.bytes
    (iterated-may action op xs clock bank regs old new leads is (did.Stored row place) end) (running_of (core xs) clock.bank old op leads.holds is).of)
iterate_ends_law n m e (did.Moved moved) action op xs clock bank regs old new leads is end leaves =
    iterated-none action op xs clock bank regs old new leads is (did.Moved moved) end leaves.0
    (subst (λ (bytes : List ℕ). IsSomeAnd (copied xs) (λ source. bytes ≡ decode e source)) (sym leaves.1)
    (own-copies action op xs clock bank regs old new leads is
    (moves-copy action op xs clock bank regs old new leads is op.work moved (iterated-may action op xs clock bank regs old new leads is (did.Moved moved) end))))
iterate_ends_law n m e answer action op xs clock bank regs old new leads is end leaves = iterated-none action op xs clock bank regs old new leads is answer end leaves tt
