-- A gap move that ends: the line that was copied stands in the old gap, and is read as it was; every other line stands where it did.
use Rattle.std.proofs.Common.{◌≡◌, ◌≢◌, ℕ, ◌+◌, ◌/◌, ◌%◌, ◌<◌, ◌≤◌, ◌==◌, cond, not, ◌&&◌, inl, inr, true, false, List, ◌∷◌, get_or, Option, Some, None, is_some, refl, sym, ap, subst, ◌∙◌, arith, eq-eqb, get_or-set_other}
use Rattle.std.{specs.Prelude.{IfSome, IsTrue, All}, proofs.lemmas.Bool.{cases_eq, ne_eqb}, proofs.lemmas.Grind.get_or-set_at}
use Rattle.masked_bytes.specs.{Entries.layer_of, Masked.laid}
use Rattle.cell_rows.specs.Device.{ArrayState, LineState, CellBounds}
use Rattle.start_gap.{specs.Rotation.{StandsFor, place_by, move_by, advanced}, specs.declared.Move.Move, proofs.Turning.stands-advanced}
use Rattle.region_regs.specs.Region.{RegionState, after_move}
use Rattle.line_writer.specs.{Orderly.IsOrderly, Writing.{steps_left, most_steps}}
use Rattle.ecp_line.specs.{ArrayLines.decoded, Reading.IsSoundLine, Untouched.HasUntouched}
use Rattle.bank_shape.{specs.Kinds.is_copy, specs.Shape.{slots_of, slot_at}, specs.declared.Work.Work, specs.declared.Work.TheVariants.Copy, proofs.Sizes.slot_at-within}
use Rattle.bank_shape.specs.declared.answer.Step.TheVariants as did
use Rattle.power_recovery.specs.{Kept.{KeptState, IsKept, no_region, region_at, slot_of, array_line, stands_at, due_region, next_work}, Slots.bank_lines}
use Rattle.power_recovery.proofs.Bundle.{due_region-Some, next_work-copy, IsKept-moved_at}
use Rattle.power_recovery.proofs.{Frames.{moved_at, moved_kept-at, slot_of-moved, slot_of-moved_region, slot_of-moved_other}, Placing.{slot_of-within, slot_of-off_gap}}
use Rattle.bank_model.specs.{After.{work_after, may_begin_after}, Answers.IsDone, Events.{BankEvent, Begin, Iterate, newest}}
use Rattle.bank_model.specs.History.{Awaited, queue, begun, waits, in_progress, iterated, stores, stored_in, moved_in, due_after, first_or}
use Rattle.bank_invariant.specs.{Holds.{Holds, IsRegionAfter, stands_for}, Moving.{MovedLaw, MovedAtOnceLaw, moved}, State.{BankState, Operation, target_of, is_free}}
use Rattle.bank_invariant.{specs.Tearing.DiffersAt, specs.Tied.AreTied, proofs.Agreeing.agree_law, proofs.Iterating.{waits-known, under_way-steps}}
use Rattle.bank_invariant.proofs.Targets.{IsTargetOf, next_copy-region, running-target, decoded-other, AreSound-differs, AreUntouched-differs, AreOrderly-differs}
use Rattle.bank_invariant.proofs.Tearing.{running_of, in_progress_of}

-- the gap that a move fills is a slot of the bank
gap-within : {n : ℕ} (kept : KeptState n) (region : ℕ) (step : Move) → IsKept kept → next_work kept ≡ Copy region step
    → slot_at kept.shape region step.to < slots_of kept.shape
gap-within kept region step range next =
    let moves = next_copy-region kept region step kept.exhausted (due_region kept) kept.entries (sym next) in
    let due = due_region-Some kept region range moves.0 in
    let own = range.regions region due.0 in
    let gap : step.to ≡ (region_at kept region).rotation.gap = ap (λ s. s.to) moves.1 in
    slot_at-within kept.shape region step.to due.0 (omega (arith, gap, own.rotates, own.in_range.rotates.gap_within))

-- a region that was due, after its move
region-moved : (moves total stores psi : ℕ) (state new : RegionState) → IsRegionAfter moves stores psi state → state.counter ≡ psi
    → StandsFor (advanced state.rotation) (moves + 1) → total ≡ moves + 1 → new ≡ after_move state → IsRegionAfter total stores psi new
region-moved moves total stores psi state new is full stands more same =
    let own : IsRegionAfter (moves + 1) stores psi (after_move state) = record { registers = stands; counter = omega (arith, is.counter, full) } in
    subst (λ (r : RegionState). IsRegionAfter total stores psi r) (sym same) (subst (λ (t : ℕ). IsRegionAfter t stores psi (after_move state)) (sym more) own)

-- and another region
region-kept : (moves total stores psi : ℕ) (state new : RegionState) → IsRegionAfter moves stores psi state → total ≡ moves → new ≡ state
    → IsRegionAfter total stores psi new
region-kept moves total stores psi state new is as_many same =
    subst (λ (r : RegionState). IsRegionAfter total stores psi r) (sym same) (subst (λ (t : ℕ). IsRegionAfter t stores psi state) (sym as_many) is)

module _ {n m e : ℕ} (region : ℕ) (step : Move) (h : List (BankEvent n)) (bank : BankState n m e) (old new : ArrayState n m)
    (holds : Holds h bank old) (next : next_work bank.kept ≡ Copy region step)
    (differs : DiffersAt e (target_of bank.kept (Copy region step)) old new)
    (copied : decoded e new (target_of bank.kept (Copy region step)) ≡ decoded e old (array_line bank.kept (slot_at bank.kept.shape region step.from))) where
  -- the kept state after the move of this region
  abbrev after : KeptState n
  after = moved_at bank.kept region

  is_due : (due_region bank.kept ≡ Some region) × (step ≡ move_by (region_at bank.kept region).rotation)
  is_due = next_copy-region bank.kept region step bank.kept.exhausted (due_region bank.kept) bank.kept.entries (sym next)

  exists : region < bank.kept.shape.regions
  exists = (due_region-Some bank.kept region holds.kept is_due.0).0

  is_full : (region_at bank.kept region).counter ≡ bank.kept.shape.psi
  is_full = (due_region-Some bank.kept region holds.kept is_due.0).1 ∙ (holds.kept.regions region exists).stores

  to_gap : step.to ≡ (region_at bank.kept region).rotation.gap
  to_gap = ap (λ s. s.to) is_due.1

  from_below : step.from ≡ (move_by (region_at bank.kept region).rotation).from
  from_below = ap (λ s. s.from) is_due.1

  -- Lines

  abbrev gap_slot : ℕ
  gap_slot = slot_at bank.kept.shape region step.to

  target : IsTargetOf bank.kept bank.waiting (array_line bank.kept gap_slot) gap_slot
  target =
      running-target e bank.kept old bank.waiting (decoded e old (array_line bank.kept (slot_at bank.kept.shape region step.from)))
      (Copy region step) (array_line bank.kept gap_slot) holds.kept (sym next) refl refl

  gap-exists : gap_slot < slots_of bank.kept.shape
  gap-exists = gap-within bank.kept region step holds.kept next

  -- no line stands in the gap
  off_gap : (line : ℕ) → line < bank_lines bank.kept.shape → stands_at bank.kept line ≢ array_line bank.kept gap_slot
  off_gap line below same =
      slot_of-off_gap bank.kept holds.kept line region below exists
      (holds.tied.sound.apart (slot_of bank.kept line) gap_slot (slot_of-within bank.kept holds.kept line below) gap-exists same
      ∙ ap (λ place. slot_at bank.kept.shape region place) to_gap)

  -- a line that stands where it did is read as before
  read-kept : (line : ℕ) → line < bank_lines bank.kept.shape → slot_of after line ≡ slot_of bank.kept line
      → decoded e new (stands_at after line) ≡ decoded e old (stands_at bank.kept line)
  read-kept line below same =
      ap (λ slot. decoded e new (array_line bank.kept slot)) same
      ∙ decoded-other e (array_line bank.kept gap_slot) (stands_at bank.kept line) old new differs (off_gap line below)

  -- the line that was copied is read in the gap as it was below it
  read-copied : (line : ℕ) → line / bank.kept.shape.lines ≡ region
      → place_by (region_at bank.kept region).rotation (line % bank.kept.shape.lines) ≡ (move_by (region_at bank.kept region).rotation).from
      → decoded e new (stands_at after line) ≡ decoded e old (stands_at bank.kept line)
  read-copied line own from =
      let now : slot_of after line ≡ gap_slot =
      slot_of-moved bank.kept region line holds.kept exists own from ∙ ap (λ place. slot_at bank.kept.shape region place) (sym to_gap) in
      let before : slot_of bank.kept line ≡ slot_at bank.kept.shape region step.from =
      ap (λ at. slot_at bank.kept.shape at (place_by (region_at bank.kept at).rotation (line % bank.kept.shape.lines))) own
      ∙ ap (λ place. slot_at bank.kept.shape region place) (from ∙ sym from_below) in
      ap (λ slot. decoded e new (array_line bank.kept slot)) now ∙ copied ∙ ap (λ slot. decoded e old (array_line bank.kept slot)) (sym before)

  -- so each line of the bank is read as it was
  pub read-moved : (line : ℕ) → line < bank_lines bank.kept.shape → decoded e new (stands_at after line) ≡ decoded e old (stands_at bank.kept line)
  read-moved line below =
      elim (cases_eq (line / bank.kept.shape.lines) region) [
        | inl own ↦ elim (cases_eq (place_by (region_at bank.kept region).rotation (line % bank.kept.shape.lines)) (move_by (region_at bank.kept region).rotation).from) [
          | inl from ↦ read-copied line own from
          | inr other ↦ read-kept line below (slot_of-moved_other bank.kept region line holds.kept exists own other)
        ]
        | inr off ↦ read-kept line below (slot_of-moved_region bank.kept region line off)
      ]

  newest-moved : (line : ℕ) → line < bank_lines bank.kept.shape → stands_for e after new line ≡ newest h line
  newest-moved line below =
      ap (λ under. laid (layer_of bank.kept.entries line).bytes (layer_of bank.kept.entries line).given under) (read-moved line below) ∙ holds.newest line below

  served-moved : All (λ w. laid w.kept w.given (decoded e new (stands_at after w.line)) ≡ w.newest) (waits bank.kept.shape h)
  served-moved k d few =
      let w : Awaited = get_or (waits bank.kept.shape h) k d in
      ap (λ under. laid w.kept w.given under) (read-moved w.line (waits-known bank.kept.shape (most_steps e) h holds.past k d few)) ∙ holds.served k d few

  -- The array

  not_exhausted : bank.kept.exhausted ≡ false
  not_exhausted = (next_work-copy bank.kept (ap (λ work. is_copy work) next)).0

  tied-moved : AreTied {e = e} after None bank.waiting new
  tied-moved =
      let sound = AreSound-differs e bank.kept bank.waiting (array_line bank.kept gap_slot) gap_slot old new holds.kept holds.tied.sound target differs in
      record {
        lines = omega (arith, holds.tied.lines, differs.lines);
        sound = record { apart = sound.apart; slots = sound.slots; spares = sound.spares; worn = sound.worn };
        unused = AreUntouched-differs e (target_of bank.kept (Copy region step)) _ _ old new differs holds.tied.unused;
        orderly = AreOrderly-differs e (target_of bank.kept (Copy region step)) _ _ old new differs holds.tied.orderly;
        operation = tt;
        exhausted = λ mark. let none : false ≡ true = sym not_exhausted ∙ mark in cc;
      }

  -- Regions

  -- the move is of the region of the last store
  last_store : first_or 0 (stores h) / bank.kept.shape.lines ≡ region
  last_store = holds.due_last region exists is_full

  after-own : (at : ℕ) → at ≡ region → region_at after at ≡ after_move (region_at bank.kept region)
  after-own at same =
      get_or-set_at bank.kept.regions region at (after_move (region_at bank.kept region)) no_region same (omega (arith, exists, holds.kept.all_regions))

  after-other : (at : ℕ) → at ≢ region → region_at after at ≡ region_at bank.kept at
  after-other at off = get_or-set_other bank.kept.regions region at (after_move (region_at bank.kept region)) no_region off

  -- how often the gap of a region moved, with this move
  abbrev moves_then : ℕ → ℕ
  moves_then at = cond (first_or 0 (stores h) / bank.kept.shape.lines == at) 1 0 + moved_in bank.kept.shape.lines h at

  moves-own : (at : ℕ) → at ≡ region → moves_then at ≡ moved_in bank.kept.shape.lines h region + 1
  moves-own at same =
      ap (λ at. moves_then at) same
      ∙ ap (λ b. cond b 1 0 + moved_in bank.kept.shape.lines h region) (eq-eqb (first_or 0 (stores h) / bank.kept.shape.lines) region last_store) ∙ omega arith

  moves-other : (at : ℕ) → at ≢ region → moves_then at ≡ moved_in bank.kept.shape.lines h at
  moves-other at off =
      ap (λ b. cond b 1 0 + moved_in bank.kept.shape.lines h at)
      (ne_eqb (first_or 0 (stores h) / bank.kept.shape.lines) at (λ last. off (sym last ∙ last_store))) ∙ omega arith

  regions-moved : (at : ℕ) → at < bank.kept.shape.regions
      → IsRegionAfter (moves_then at) (stored_in bank.kept.shape.lines h at) bank.kept.shape.psi (region_at after at)
  regions-moved at below =
      elim (cases_eq at region) [
        | inl same ↦
            let own = holds.regions region exists in
            let there : IsRegionAfter (moves_then at) (stored_in bank.kept.shape.lines h region) bank.kept.shape.psi (region_at after at) =
            region-moved (moved_in bank.kept.shape.lines h region) (moves_then at) (stored_in bank.kept.shape.lines h region) bank.kept.shape.psi
            (region_at bank.kept region) (region_at after at) own is_full
            (stands-advanced (region_at bank.kept region).rotation (moved_in bank.kept.shape.lines h region) (holds.kept.regions region exists).in_range.rotates own.registers)
            (moves-own at same) (after-own at same) in
            subst (λ (r : ℕ). IsRegionAfter (moves_then at) (stored_in bank.kept.shape.lines h r) bank.kept.shape.psi (region_at after at)) (sym same) there
        | inr off ↦
            region-kept (moved_in bank.kept.shape.lines h at) (moves_then at) (stored_in bank.kept.shape.lines h at) bank.kept.shape.psi
            (region_at bank.kept at) (region_at after at) (holds.regions at below) (moves-other at off) (after-other at off)
      ]

  due_last-moved : (at : ℕ) → at < bank.kept.shape.regions → (region_at after at).counter ≡ bank.kept.shape.psi → first_or 0 (stores h) / bank.kept.shape.lines ≡ at
  due_last-moved at below full =
      elim (cases_eq at region) [
        | inl same ↦ last_store ∙ sym same
        | inr off ↦ holds.due_last at below (ap (λ r. r.counter) (sym (after-other at off)) ∙ full)
      ]

  -- The history

  abbrev bank_after : KeptState n → BankState n m e
  bank_after kept = record { kept = kept; running = None; waiting = bank.waiting; lost = bank.lost; rows_below = bank.rows_below }

  next-after : work_after bank.kept.shape h ≡ Copy region step
  next-after = sym (agree_law n m e h bank old holds).work ∙ next

  is_done : IsDone bank.kept.shape h (work_after bank.kept.shape h) (did.Moved step)
  is_done = subst (λ (work : Work). IsDone bank.kept.shape h work (did.Moved step)) (sym next-after) refl

  moved-iterate : IsTrue (in_progress h) → iterated h < most_steps e → Holds (Iterate (did.Moved step) ∷ h) (bank_after after) new
  moved-iterate going few = record {
    past = ((going, is_done, few, λ more. cc), holds.past);
    newest = newest-moved;
    waiting = holds.waiting;
    few_waiting = holds.few_waiting;
    served = served-moved;
    running = refl;
    steps = tt;
    rounds = tt;
    tied = tied-moved;
    regions = regions-moved;
    due_last = due_last-moved;
    entries = holds.entries;
    table = holds.table;
    exhausted = holds.exhausted;
    rows = holds.rows;
    kept = IsKept-moved_at bank.kept region holds.kept is_due.0;
  }

  pub moved_by_iterating : IsTrue (in_progress h) → iterated h < most_steps e → Holds (Iterate (did.Moved step) ∷ h) (moved bank) new
  moved_by_iterating going few =
      subst (λ (kept : KeptState n). Holds (Iterate (did.Moved step) ∷ h) (bank_after kept) new) (sym (moved_kept-at bank.kept region is_due.0)) (moved-iterate going few)

  entries-begun : bank.kept.entries ≡ begun (due_after bank.kept.shape h) (newest h) (queue bank.kept.shape h)
  entries-begun =
      holds.entries
      ∙ ap (λ due. begun due (newest h) (queue bank.kept.shape h)) (sym is_due.0 ∙ (agree_law n m e h bank old holds).due)

  moved-begin : IsTrue (may_begin_after bank.kept.shape h) → Holds (Begin (did.Moved step) ∷ h) (bank_after after) new
  moved-begin ready = record {
    past = ((ready, is_done), holds.past);
    newest = newest-moved;
    waiting = holds.waiting;
    few_waiting = holds.few_waiting;
    served = served-moved;
    running = refl;
    steps = tt;
    rounds = tt;
    tied = tied-moved;
    regions = regions-moved;
    due_last = due_last-moved;
    entries = entries-begun;
    table = holds.table;
    exhausted = holds.exhausted;
    rows = holds.rows;
    kept = IsKept-moved_at bank.kept region holds.kept is_due.0;
  }

  pub moved_by_beginning : bank.running ≡ None → Holds (Begin (did.Moved step) ∷ h) (moved bank) new
  moved_by_beginning idle =
      let ready : IsTrue (may_begin_after bank.kept.shape h) =
      sym (agree_law n m e h bank old holds).ready
      ∙ ap (λ (r : Option (Operation n m e)). not (is_some r) && is_free bank.waiting (next_work bank.kept)) idle
      ∙ ap (λ work. is_free bank.waiting work) next in
      subst (λ (kept : KeptState n). Holds (Begin (did.Moved step) ∷ h) (bank_after kept) new) (sym (moved_kept-at bank.kept region is_due.0)) (moved-begin ready)

pub moved_law : MovedLaw
moved_law n m e region step h bank old new op holds is next differs copied =
    let run = running_of h bank old op holds is in
    let place : op.target ≡ target_of bank.kept (Copy region step) = run.target ∙ ap (λ work. target_of bank.kept work) (run.next ∙ next) in
    let steps : iterated h + steps_left op.writer ≤ most_steps e =
    subst (λ (r : Option (Operation n m e)). IfSome r (λ op. iterated h + steps_left op.writer ≤ most_steps e)) is holds.steps in
    let left : 0 < steps_left op.writer = under_way-steps op.writer (old.line op.target) run.writing in
    moved_by_iterating region step h bank old new holds next (subst (λ (t : ℕ). DiffersAt e t old new) place differs)
    (ap (λ t. decoded e new t) (sym place) ∙ copied) (in_progress_of h bank old op holds is) (omega (arith, steps, left))

pub moved_at_once_law : MovedAtOnceLaw
moved_at_once_law n m e region step h bank old new holds idle next stands copied =
    let differs : DiffersAt e (target_of bank.kept (Copy region step)) old new = record {
      others = λ line off. stands.line line;
      lines = stands.lines;
      bounds = stands.bounds;
      sound = subst (λ (l : LineState n m). IsSoundLine e l) (sym (stands.line (target_of bank.kept (Copy region step))))
          (holds.tied.sound.slots (slot_at bank.kept.shape region step.to) (gap-within bank.kept region step holds.kept next));
      stuck = λ number is. ap (λ (l : LineState n m). l.stuck number) (stands.line (target_of bank.kept (Copy region step))) ∙ is;
      unused = λ own. subst (λ (l : LineState n m). HasUntouched e l) (sym (stands.line (target_of bank.kept (Copy region step)))) own;
      orderly = λ own.
          subst (λ (b : CellBounds). IsOrderly b.misses (new.line (target_of bank.kept (Copy region step)))) (sym stands.bounds)
          (subst (λ (l : LineState n m). IsOrderly old.bounds.misses l) (sym (stands.line (target_of bank.kept (Copy region step)))) own);
    } in
    moved_by_beginning region step h bank old new holds next differs copied idle
